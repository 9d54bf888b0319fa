use Rattle.std.proofs.Common.{◌≡◌, ◌==◌, ℕ, List, Bool, true, false, Option, Some, Result, Ok, Err, IfOk, get_or, refl, sym, ap, subst, ◌∙◌, arith}
use Rattle.std.specs.List.{list_any, slice_get}
use Rattle.std.proofs.lemmas.Option.{get_or_from_slice_get, slice_get_within}
use Rattle.basics.specs.Refusal.{IsRefusedBy}
use Rattle.sector_model.specs.Page.{page_from}
use Rattle.change_id.specs.ChangeId.{packed}
use Rattle.change_id.specs.declared.ChangeId.{ChangeId}
use Rattle.change_tracker.specs.declared.frozen_snapshot.FrozenSnapshot.{FrozenSnapshot}
use Rattle.change_tracker.specs.declared.refusals.TrackRefused.{TrackRefused}
use Rattle.change_tracker.specs.declared.refusals.TrackRefused.TheVariants.{UnknownSnap, Range, Strange}
use Rattle.change_tracker.specs.Tracker.{TrackerState}
use Rattle.change_tracker.specs.History.{answered, query_refusal, StandsFor}
use Rattle.change_tracker.specs.Fields.{is_accepted, window_from, in_force_of}
use Rattle.change_tracker.proofs.Queries.{all_page, all_accepts, since_page, since_accepts, since_refuses, outside_refuses, unknown_refuses, some_window, no_window}
use Rattle.change_tracker.proofs.tracker.Tracker.query.Goals as goal

abbrev Answer : Type 0
Answer = Result (Unit {0}) TrackRefused

at_of : (seen ks : List FrozenSnapshot) (place : ℕ) (k : FrozenSnapshot) → seen ≡ ks
    → slice_get seen place ≡ Some k
    → slice_get ks place ≡ Some k
at_of seen ks place k same is = ap (λ (xs : List FrozenSnapshot). slice_get xs place) (sym same)
    ∙ is

pub overflow_add-window : goal.overflow_add-window
overflow_add-window c =
    let inside = slice_get_within c.as_slice.result.now c.in-Some.place c.in-Some.ensures.0
    c.in-Some.ensures.1 in
    omega (arith, inside, c.as_slice.ensures.len)

pub index-requires : goal.index-requires
index-requires c =
    let inside = slice_get_within c.as_slice.result.now c.in-Some.place c.in-Some.ensures.0
    c.in-Some.ensures.1 in
    omega (arith, inside, c.as_slice.ensures.len)

pub window_since-requires : goal.window_since-requires
window_since-requires c =
    let inside = slice_get_within c.as_slice.result.now c.in-Some.place c.in-Some.ensures.0
    c.in-Some.ensures.1 in
    omega (arith, inside, c.as_slice.ensures.len)

pub returns-in_default-clause-refused : goal.returns-in_default-clause-refused
returns-in_default-clause-refused c = λ steps.
    let was = c.self.inside in
    let none : list_any (λ k. k.id == c.args.id) was.snapshots.items ≡ false =
    ap (λ (ks : List FrozenSnapshot). list_any (λ k. k.id == c.args.id) ks)
    (sym c.as_slice.ensures.value)
    ∙ (rw c.in_default.is at c.place_of.ensures) in
    let x : Answer = Err UnknownSnap in
    let P : TrackerState → Type 0 = λ t. StandsFor t steps
    → IsRefusedBy (query_refusal t.machine t.disk t.capacity c.args.id c.args.since c.args.start
    steps) x in
    subst P c.self.view_is
    (λ stands. unknown_refuses was.machine was.disk was.capacity was.resets was.counted was.maps
    was.snapshots.items was.free_from was.mark_room was.freeze_room c.args.id steps stands none
    c.args.start c.args.since x refl)

pub returns-then-start-self-clause-refused : goal.returns-then-start-self-clause-refused
returns-then-start-self-clause-refused c = λ steps.
    let was = c.self.inside in
    let at = at_of c.as_slice.result.now was.snapshots.items c.in-Some.place c.in-Some.ensures.0
    c.as_slice.ensures.value c.in-Some.ensures.1 in
    let x : Answer = Err Range in
    let P : TrackerState → Type 0 = λ t. StandsFor t steps
    → IsRefusedBy (query_refusal t.machine t.disk t.capacity c.args.id c.args.since c.args.start
    steps) x in
    subst P c.self.view_is
    (λ stands. outside_refuses was.machine was.disk was.capacity was.resets was.counted was.maps
    was.snapshots.items was.free_from was.mark_room was.freeze_room c.args.id c.in-Some.place
    c.in-Some.ensures.0 steps stands at c.in-Some.ensures.2 c.args.start c.args.since x
    c.if-start-self.true refl)

pub returns-in-All-clause-refused : goal.returns-in-All-clause-refused
returns-in-All-clause-refused c = λ steps.
    let was = c.self.inside in
    let at = at_of c.as_slice.result.now was.snapshots.items c.in-Some.place c.in-Some.ensures.0
    c.as_slice.ensures.value c.in-Some.ensures.1 in
    let x : Answer = Ok tt in
    let P : TrackerState → Type 0 = λ t. StandsFor t steps
    → IsRefusedBy (query_refusal t.machine t.disk t.capacity c.args.id c.args.since c.args.start
    steps) x in
    subst P c.self.view_is
    (λ stands. all_accepts was.machine was.disk was.capacity was.resets was.counted was.maps
    was.snapshots.items was.free_from was.mark_room was.freeze_room c.args.id c.in-Some.place
    c.in-Some.ensures.0 steps stands at c.in-Some.ensures.2 c.args.start c.args.since x
    c.in-All.is c.if-start-self.false refl)

pub returns-in-All-clause-areas : goal.returns-in-All-clause-areas
returns-in-All-clause-areas c = λ steps.
    let was = c.self.inside in
    let at = at_of c.as_slice.result.now was.snapshots.items c.in-Some.place c.in-Some.ensures.0
    c.as_slice.ensures.value c.in-Some.ensures.1 in
    let P : TrackerState → Type 0 = λ t. StandsFor t steps
    → IfOk (answered t.machine t.disk t.capacity c.args.id c.args.since steps)
    (λ areas. c.fill_page.new.page ≡ page_from t.capacity areas c.args.start) in
    subst P c.self.view_is
    (λ stands. all_page was.machine was.disk was.capacity was.resets was.counted was.maps
    was.snapshots.items was.free_from was.mark_room was.freeze_room c.args.id c.in-Some.place
    c.in-Some.ensures.0 steps stands at c.in-Some.ensures.2 c.args.start c.fill_page.new.page
    c.args.since c.in-All.is c.fill_page.ensures)

abbrev accepted_as : (uuid : ℕ) (at : Option ChangeId) (from : ChangeId) → Bool
accepted_as uuid at from = is_accepted uuid at from

told_at : (ks : List FrozenSnapshot) (place : ℕ) (k read : FrozenSnapshot) → slice_get ks place
    ≡ Some k
    → read ≡ get_or ks place read → read.change_id ≡ k.change_id
told_at ks place k read at is =
    ap (λ (x : FrozenSnapshot). x.change_id) (is ∙ get_or_from_slice_get ks place k read at)

pub returns-in_default-window_since-clause-refused :
    goal.returns-in_default-window_since-clause-refused
returns-in_default-window_since-clause-refused c = λ steps.
    let was = c.self.inside in
    let at = at_of c.as_slice.result.now was.snapshots.items c.in-Some.place c.in-Some.ensures.0
    c.as_slice.ensures.value c.in-Some.ensures.1 in
    let told = told_at was.snapshots.items c.in-Some.place c.in-Some.ensures.0 c.index.result.now at
    c.index.ensures in
    let refused : is_accepted (packed was.machine was.disk was.resets)
    (c.in-Some.ensures.0).change_id c.in-From.from ≡ false =
    (λ i. is_accepted (sym c.pack-uuid.ensures i) (sym told i) c.in-From.from)
    ∙ no_window (is_accepted c.pack-uuid.result c.index.result.now.change_id c.in-From.from)
    c.window_since.result
    (window_from c.in-Some.place c.index.result.now.change_id c.in-From.from.seq)
    c.window_since.ensures c.in_default-window_since.is in
    let x : Answer = Err (Strange c.in_force_of.result) in
    let force : x ≡ Err (Strange (in_force_of (packed was.machine was.disk was.resets) was.counted))
    = ap (λ (o : Option ChangeId). Err (Strange o))
    (c.in_force_of.ensures ∙ ap (λ u. in_force_of u was.counted) c.pack-uuid.ensures) in
    let P : TrackerState → Type 0 = λ t. StandsFor t steps
    → IsRefusedBy (query_refusal t.machine t.disk t.capacity c.args.id c.args.since c.args.start
    steps) x in
    subst P c.self.view_is
    (λ stands. since_refuses was.machine was.disk was.capacity was.resets was.counted was.maps
    was.snapshots.items was.free_from was.mark_room was.freeze_room c.args.id c.in-Some.place
    c.in-Some.ensures.0 steps stands at c.in-Some.ensures.2 c.args.start c.args.since
    c.in-From.from x c.in-From.is c.if-start-self.false refused force)

pub returns-in-Some-window_since-clause-refused : goal.returns-in-Some-window_since-clause-refused
returns-in-Some-window_since-clause-refused c = λ steps.
    let was = c.self.inside in
    let at = at_of c.as_slice.result.now was.snapshots.items c.in-Some.place c.in-Some.ensures.0
    c.as_slice.ensures.value c.in-Some.ensures.1 in
    let told = told_at was.snapshots.items c.in-Some.place c.in-Some.ensures.0 c.index.result.now at
    c.index.ensures in
    let found = some_window
    (is_accepted c.pack-uuid.result c.index.result.now.change_id c.in-From.from)
    c.window_since.result
    (window_from c.in-Some.place c.index.result.now.change_id c.in-From.from.seq)
    c.in-Some-window_since.window c.window_since.ensures c.in-Some-window_since.is in
    let accepted : is_accepted (packed was.machine was.disk was.resets)
    (c.in-Some.ensures.0).change_id c.in-From.from ≡ true =
    (λ i. is_accepted (sym c.pack-uuid.ensures i) (sym told i) c.in-From.from) ∙ found.0 in
    let x : Answer = Ok tt in
    let P : TrackerState → Type 0 = λ t. StandsFor t steps
    → IsRefusedBy (query_refusal t.machine t.disk t.capacity c.args.id c.args.since c.args.start
    steps) x in
    subst P c.self.view_is
    (λ stands. since_accepts was.machine was.disk was.capacity was.resets was.counted was.maps
    was.snapshots.items was.free_from was.mark_room was.freeze_room c.args.id c.in-Some.place
    c.in-Some.ensures.0 steps stands at c.in-Some.ensures.2 c.args.start c.args.since
    c.in-From.from c.in-Some-window_since.window x c.in-From.is c.if-start-self.false accepted
    (found.1 ∙ ap (λ (o : Option ChangeId). window_from c.in-Some.place o c.in-From.from.seq) told)
    refl)

pub returns-in-Some-window_since-clause-areas : goal.returns-in-Some-window_since-clause-areas
returns-in-Some-window_since-clause-areas c = λ steps.
    let was = c.self.inside in
    let at = at_of c.as_slice.result.now was.snapshots.items c.in-Some.place c.in-Some.ensures.0
    c.as_slice.ensures.value c.in-Some.ensures.1 in
    let told = told_at was.snapshots.items c.in-Some.place c.in-Some.ensures.0 c.index.result.now at
    c.index.ensures in
    let found = some_window
    (is_accepted c.pack-uuid.result c.index.result.now.change_id c.in-From.from)
    c.window_since.result
    (window_from c.in-Some.place c.index.result.now.change_id c.in-From.from.seq)
    c.in-Some-window_since.window c.window_since.ensures c.in-Some-window_since.is in
    let accepted : is_accepted (packed was.machine was.disk was.resets)
    (c.in-Some.ensures.0).change_id c.in-From.from ≡ true =
    (λ i. is_accepted (sym c.pack-uuid.ensures i) (sym told i) c.in-From.from) ∙ found.0 in
    let P : TrackerState → Type 0 = λ t. StandsFor t steps
    → IfOk (answered t.machine t.disk t.capacity c.args.id c.args.since steps)
    (λ areas. c.fill_page-in-From.new.page ≡ page_from t.capacity areas c.args.start) in
    subst P c.self.view_is
    (λ stands. since_page was.machine was.disk was.capacity was.resets was.counted was.maps
    was.snapshots.items was.free_from was.mark_room was.freeze_room c.args.id c.in-Some.place
    c.in-Some.ensures.0 steps stands at c.in-Some.ensures.2 c.args.start
    c.fill_page-in-From.new.page c.args.since c.in-From.from c.in-Some-window_since.window
    c.in-From.is accepted
    (found.1 ∙ ap (λ (o : Option ChangeId). window_from c.in-Some.place o c.in-From.from.seq) told)
    c.fill_page-in-From.ensures)
