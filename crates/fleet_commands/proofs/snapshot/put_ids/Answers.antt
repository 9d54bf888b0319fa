-- No call changes the machine, so each identifier is that of its log.
use Rattle.std.proofs.Common.{◌≡◌, ℕ, ◌+◌, true, List, [], ◌∷◌, ◌++◌, length, map, cond, Option, is_ok, ap, ◌∙◌, sym, arith}
use Rattle.std.specs.List.{range_with_len}
use Rattle.std.proofs.lemmas.List.{length_push}
use Rattle.std.proofs.lemmas.List.FromFn.{map-range_with_len_more}
use Rattle.change_id.specs.declared.ChangeId.{ChangeId}
use Rattle.log_model.specs.Link.{LinkState}
use Rattle.log_model.specs.Marks.{id_at}
use Rattle.log_model.proofs.LinkLaws.{calls_alone}
use Rattle.fleet_commands.proofs.Showing.{id_found}
use Rattle.fleet_commands.proofs.snapshot.put_ids.Goals as goal

pub loop-disk-preserved : goal.loop-disk-preserved
loop-disk-preserved c =
    let first : LinkState = c.args.link.now in
    let met : LinkState = c.loop-disk.link in
    let left : LinkState = c.change_id.new.self in
    let disk : ℕ = c.loop-disk.disk in
    let id : Option ChangeId = c.unwrap-id.result in
    let ids : List (Option ChangeId) = c.loop-disk.ids.items in
    let id_of : ℕ → Option ChangeId = λ d. id_at first.machine d c.args.snapshot first.seen in
    let before : met ≡ first = c.loop-disk.invariant.same in
    let alone : met.unshared ≡ true =
    ap (λ (l : LinkState). l.unshared) before ∙ c.requires.alone in
    let after : left ≡ first =
    (calls_alone met left alone).reads c.change_id.ensures.reads ∙ before in
    let is : id ≡ id_of disk = id_found first met left c.args.snapshot disk c.change_id.result id
    before after c.unwrap-id.ensures c.change_id.ensures.found in
    let pushed : c.push.new.self.items ≡ ids ++ id ∷ [] =
    c.push.ensures.items ∙ ap (λ r. cond (is_ok r) (ids ++ id ∷ []) ids) c.unwrap.ensures in
    let next : ◌≡◌ {A = ℕ} (0 + disk) disk = omega arith in
    record {
      same = after;
      ids = pushed ∙ ap (λ xs. xs ++ id ∷ []) c.loop-disk.invariant.ids
          ∙ ap (λ i. map id_of (range_with_len 0 disk) ++ i ∷ []) is
          ∙ sym (map-range_with_len_more id_of 0 disk disk next);
      count = ap length pushed ∙ length_push ids id ∙ ap (λ n. n + 1) c.loop-disk.invariant.count;
      room = omega arith;
    }
