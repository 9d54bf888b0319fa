use Rattle.std.proofs.Common.{◌≡◌, ℕ, List, Bool, true, false, not, ◌&&◌, nat_lt, Option, Some, is_some, cond, refl, Result, Ok, Err, IfOk, MatchBool, subst, sym, ap, ◌∙◌}
use Rattle.std.proofs.lemmas.Result.{err_from_is_err_and}
use Rattle.sector_model.specs.Run.{areas_of, touched_blocks}
use Rattle.sector_model.specs.Page.{PageContents, page_from}
use Rattle.sector_model.specs.declared.run.Run.{Run}
use Rattle.change_id.specs.declared.ChangeId.{ChangeId}
use Rattle.change_id.specs.declared.Since.{Since}
use Rattle.log_model.specs.declared.entry.Owner.{Owner}
use Rattle.log_model.specs.declared.entry.Entry.{Entry}
use Rattle.log_model.specs.declared.refusals.LinkRefused.{LinkRefused}
use Rattle.log_model.specs.declared.refusals.LinkRefused.TheVariants.{UnknownSnap, Strange, Range}
use Rattle.log_model.specs.Entry.{writes_of}
use Rattle.log_model.specs.Legal.{capacity_of}
use Rattle.log_model.specs.Marks.{mark, in_force}
use Rattle.log_model.specs.Touched.{between, touched_areas}
use Rattle.log_model.specs.Query.{changed_areas}
use Rattle.log_model.specs.Refusals.{is_known, is_live, strange_refusal, query_refusal}
use Rattle.basics.specs.Refusal.{IsRefusedBy}
use Rattle.log_model.specs.Link.{LinkState, OnlyReads}
use Rattle.log_model.proofs.Accepted.{plain_looks}
use Rattle.log_model.proofs.plain_machine.PlainMachineLink.query.Goals as goal

-- of a live snapshot, a known disk and a start within it
strange_there : (machine : ℕ) (sizes : List ℕ) (id d : ℕ) (since : Since) (start : ℕ)
    (log : List Entry) (found : Option ChangeId) → is_live id log ≡ true
    → (is_known sizes d && nat_lt start (capacity_of sizes d)) ≡ true
    → changed_areas machine (capacity_of sizes d) d id since log ≡ Err found
    → query_refusal machine sizes id d since start log ≡ Some (Strange found)
strange_there machine sizes id d since start log found live known told =
    let last : Option LinkRefused =
    strange_refusal (changed_areas machine (capacity_of sizes d) d id since log) in
    ap (λ b. cond (not b) (Some UnknownSnap)
    (cond (not (is_known sizes d && nat_lt start (capacity_of sizes d))) (Some Range) last))
    live
    ∙ ap (λ b. cond (not b) (Some Range) last) known ∙ ap strange_refusal told

known_is : (b : Bool) (x y : ℕ)
    → MatchBool b (◌≡◌ {A = Result ℕ LinkRefused} (Ok x) (Ok y))
    (◌≡◌ {A = Result ℕ LinkRefused} (Ok x) (Err Range)) → b ≡ true
known_is true x y h = refl
known_is false x y h = absurd (cc)

pub returns-in_err-from-clause-refused : goal.returns-in_err-from-clause-refused
returns-in_err-from-clause-refused c =
    let log : List Entry = c.as_slice-log.result.now in
    let sizes : List ℕ = c.as_slice.result.now in
    let d : ℕ = c.args.disk in
    let machine : ℕ = c.self.inside.machine in
    let p = err_from_is_err_and c.from_residual-in_err-from.result
    c.from_residual-in_err-from.ensures.1 in
    let live : is_live c.args.id log ≡ true =
    sym (ap (λ (o : Option Owner). is_some o) c.owner_of.ensures)
    ∙ (c.is_none.ensures ∙ ap not c.if-is_none.false) in
    let known : (is_known sizes d && nat_lt c.args.start (capacity_of sizes d)) ≡ true =
    known_is (is_known sizes d && nat_lt c.args.start (capacity_of sizes d))
    c.in_ok-capacity.capacity (capacity_of sizes d) c.in_ok-capacity.ensures in
    let stands : query_refusal machine sizes c.args.id d c.args.since c.args.start log
    ≡ Some (Strange (in_force machine d log)) =
    strange_there machine sizes c.args.id d c.args.since c.args.start log (in_force machine d log)
    live known (c.in_err-from.ensures.1 (capacity_of sizes d)) in
    let result = c.from_residual-in_err-from.result in
    let refused : IsRefusedBy
    (query_refusal machine sizes c.args.id d c.args.since c.args.start log) result =
    subst (λ (stood : Option LinkRefused). IsRefusedBy stood result) (sym stands)
    (p.1 ∙ ap Err (p.2 ∙ c.in_err-from.ensures.0)) in
    subst (λ (s : LinkState). IsRefusedBy
    (query_refusal s.machine s.capacities c.args.id d c.args.since c.args.start s.seen) result)
    c.self.view_is
    (subst (λ (xs : List Entry). IsRefusedBy
    (query_refusal machine c.self.inside.capacities.items c.args.id d c.args.since c.args.start
    xs) result) c.as_slice-log.ensures.value
    (subst (λ (xs : List ℕ). IsRefusedBy
    (query_refusal machine xs c.args.id d c.args.since c.args.start log) result)
    c.as_slice.ensures.value refused))

pub returns-clause-reads : goal.returns-clause-reads
returns-clause-reads c =
    let inside = c.self.inside in
    subst (λ (s : LinkState). OnlyReads s s) c.self.view_is
    (plain_looks inside.machine inside.capacities.items inside.caller inside.entries.items
    c.self.invariant)

capacity_is : (b : Bool) (x y : ℕ)
    → MatchBool b (◌≡◌ {A = Result ℕ LinkRefused} (Ok x) (Ok y))
    (◌≡◌ {A = Result ℕ LinkRefused} (Ok x) (Err Range)) → x ≡ y
capacity_is true x y h = cc
capacity_is false x y h = absurd (cc)

pub returns-clause-areas : goal.returns-clause-areas
returns-clause-areas c =
    let log : List Entry = c.as_slice-log.result.now in
    let sizes : List ℕ = c.as_slice.result.now in
    let d : ℕ = c.args.disk in
    let machine : ℕ = c.self.inside.machine in
    let page : PageContents = c.answer_page.new.page in
    let size : c.in_ok-capacity.capacity ≡ capacity_of sizes d =
    capacity_is (is_known sizes d && nat_lt c.args.start (capacity_of sizes d))
    c.in_ok-capacity.capacity (capacity_of sizes d) c.in_ok-capacity.ensures in
    let part : c.between.result.now ≡ between c.in_ok-from.from (mark c.args.id log) log =
    c.between.ensures ∙ ap (λ k. between c.in_ok-from.from k log) c.mark.ensures.mark in
    let filled : page ≡ page_from (capacity_of sizes d)
    (touched_areas (capacity_of sizes d) d c.in_ok-from.from (mark c.args.id log) log)
    c.args.start =
    c.answer_page.ensures
    ∙ ap (λ (xs : List Entry). page_from c.in_ok-capacity.capacity
    (areas_of c.in_ok-capacity.capacity
    (touched_blocks c.in_ok-capacity.capacity (writes_of d xs))) c.args.start) part
    ∙ ap (λ n. page_from n (touched_areas n d c.in_ok-from.from (mark c.args.id log) log)
    c.args.start) size in
    let told : IfOk (changed_areas machine (capacity_of sizes d) d c.args.id c.args.since log)
    (λ areas. page ≡ page_from (capacity_of sizes d) areas c.args.start) =
    subst (λ (a : Result (List Run) _). IfOk a
    (λ areas. page ≡ page_from (capacity_of sizes d) areas c.args.start))
    (sym (c.in_ok-from.ensures (capacity_of sizes d))) filled in
    subst (λ (s : LinkState). IfOk
    (changed_areas s.machine (capacity_of s.capacities d) d c.args.id c.args.since s.seen)
    (λ areas. page ≡ page_from (capacity_of s.capacities d) areas c.args.start)) c.self.view_is
    (subst (λ (xs : List Entry). IfOk
    (changed_areas machine (capacity_of c.self.inside.capacities.items d) d c.args.id
    c.args.since xs) (λ areas. page ≡ page_from (capacity_of c.self.inside.capacities.items d)
    areas c.args.start)) c.as_slice-log.ensures.value
    (subst (λ (xs : List ℕ). IfOk
    (changed_areas machine (capacity_of xs d) d c.args.id c.args.since log)
    (λ areas. page ≡ page_from (capacity_of xs d) areas c.args.start)) c.as_slice.ensures.value
    told))
