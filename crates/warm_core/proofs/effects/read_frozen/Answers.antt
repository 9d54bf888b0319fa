use Rattle.std.proofs.Common.{◌≡◌, ℕ, ◌+◌, ◌-◌, [], ◌∷◌, ◌++◌, List, map, take, refl, sym, ap, ◌∙◌, arith}
use Rattle.std.specs.List.{range_with_len}
use Rattle.std.proofs.lemmas.List.FromFn.{map-range_with_len_more}
use Rattle.sector_model.specs.declared.sector.Sector.{Sector}
use Rattle.log_model.specs.declared.entry.Entry.{Entry}
use Rattle.log_model.specs.Legal.{only}
use Rattle.log_model.specs.Marks.{before}
use Rattle.log_model.specs.PlainMachine.{sector_at}
use Rattle.log_model.proofs.LegalLogs.{prefixes_are_legal}
use Rattle.log_model.proofs.SectorAt.{slice_is}
use Rattle.warm_core.proofs.effects.read_frozen.Goals as goal

pub loop-at-preserved : goal.loop-at-preserved
loop-at-preserved c =
    let d = c.args.world.now.disk in
    let first = c.args.run.first in
    let at = c.loop-at.at in
    let frozen : List Entry = c.before-frozen.result.now in
    let sector : ℕ → Sector = λ i. sector_at d (first + i) frozen in
    let n : ℕ = at - first in
    let here : at ≡ first + n = omega arith in
    let zero_n : 0 + n ≡ n = omega arith in
    let next : n + 1 ≡ at + 1 - first = omega arith in
    c.in_ok-push.ensures.items
    ∙ ap (λ (xs : List Sector). xs ++ c.sector_at.result ∷ []) c.loop-at.invariant
    ∙ ap (λ (x : Sector). map sector (range_with_len 0 n) ++ x ∷ [])
    (c.sector_at.ensures ∙ ap (λ k. sector_at d k frozen) here)
    ∙ sym (map-range_with_len_more sector 0 n n zero_n)
    ∙ ap (λ k. map sector (range_with_len 0 k)) next

pub returns : goal.returns
returns c =
    let w = c.args.world.now in
    let run = c.args.run in
    let frozen : List Entry = c.before-frozen.result.now in
    let is : frozen ≡ take c.args.snap.mark w.log =
    c.before-frozen.ensures ∙ ap (λ (xs : List Entry). before c.args.snap.id xs) c.as_slice.ensures
    ∙ ap (λ n. take n w.log) c.requires.snap.mark_is in
    let sector : List Entry → ℕ → Sector = λ log i. sector_at w.disk (run.first + i) log in
    let long : c.loop-at.at - run.first ≡ run.count = omega arith in
    c.loop-at.invariant ∙ ap (λ n. map (sector frozen) (range_with_len 0 n)) long
    ∙ ap (λ (xs : List Entry). map (sector xs) (range_with_len 0 run.count)) is
    ∙ slice_is (only w.disk w.capacity) w.capacity w.disk run.first run.count
    (take c.args.snap.mark w.log) (refl, refl)
    (prefixes_are_legal (only w.disk w.capacity) w.log c.args.snap.mark c.requires.legal)
    c.requires.within
