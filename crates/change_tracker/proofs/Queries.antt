-- What a query answers of what is kept, and the steps for which it stands.
use Rattle.std.proofs.Common.{◌≡◌, ℕ, ◌+◌, ◌-◌, ◌<◌, ◌≤◌, ◌==◌, List, Bool, true, false, Option, Some, None, MatchBool, Result, Ok, Err, IsOk, IfOk, sym, ap, subst, refl, ◌∙◌, arith}
use Rattle.std.specs.List.{list_any, slice_get}
use Rattle.std.proofs.lemmas.Bool.{lt-ltb, le-ltb, false≢true}
use Rattle.std.proofs.lemmas.Option.{same_Some, none-some, slice_get_within}
use Rattle.sector_model.specs.Run.{areas_of}
use Rattle.sector_model.specs.Page.{PageContents, page_from}
use Rattle.sector_model.specs.declared.run.Run.{Run}
use Rattle.basics.specs.Refusal.{IsRefusedBy}
use Rattle.change_id.specs.ChangeId.{packed}
use Rattle.change_id.specs.declared.ChangeId.{ChangeId}
use Rattle.change_id.specs.declared.Since.{Since}
use Rattle.change_id.specs.declared.Since.TheVariants.{All, From}
use Rattle.change_tracker.specs.declared.frozen_snapshot.FrozenSnapshot.{FrozenSnapshot}
use Rattle.change_tracker.specs.declared.maps.Maps.{Maps}
use Rattle.change_tracker.specs.declared.word.Window.{Window}
use Rattle.change_tracker.specs.declared.refusals.TrackRefused.{TrackRefused}
use Rattle.change_tracker.specs.declared.refusals.TrackRefused.TheVariants.{UnknownSnap, Range, Strange}
use Rattle.change_tracker.specs.Tracker.{TrackerState}
use Rattle.change_tracker.specs.Touches.{is_touched_in, areas_in}
use Rattle.change_tracker.specs.Maps.{window}
use Rattle.change_tracker.specs.Fields.{state_of, snapshot_at, is_accepted, window_from, in_force_of}
use Rattle.change_tracker.specs.History.{TrackStep, freezes, answered, changed_in, StandsFor, strange_refusal, query_refusal}
use Rattle.sector_model.proofs.Among.{same_blocks}
use Rattle.change_tracker.proofs.States.{view_get, view_find, in_changes}
use Rattle.change_tracker.proofs.Lookups.{known_at, query_unknown, query_known, query_outside, query_within, since_told, since_strange, all_told}

module _ (m d c r : ℕ) (counted : Option ℕ) (maps : Maps) (ks : List FrozenSnapshot) (free : ℕ)
    (room : Option Run) (freeze_room : Bool) (id place : ℕ) (k : FrozenSnapshot)
    (steps : List TrackStep)
    (stands : StandsFor (state_of m d c r counted maps ks free room freeze_room) steps)
    (at : slice_get ks place ≡ Some k) (same : k.id ≡ id) where
  abbrev now : TrackerState
  now = state_of m d c r counted maps ks free room freeze_room

  here : slice_get now.snapshots place ≡ Some (snapshot_at c maps (0 + place, k))
  here = view_get c maps 0 ks place k at

  known : list_any (freezes id) steps ≡ true
  known = sym (stands.known id) ∙ view_find c maps 0 id ks ∙ known_at ks place id k at same

  all_is : answered m d c id All steps ≡ Ok (areas_in c maps.first (window 0 (place + 1)))
  all_is = ap (λ n. answered m d c n All steps) (sym same)
      ∙ all_told now steps place (snapshot_at c maps (0 + place, k)) stands here
      ∙ (let e : 0 + place ≡ place = omega arith in
      ap (λ (n : ℕ). Ok (areas_in c maps.first (window 0 (n + 1)))) e)

  since_is : (from : ChangeId) (o : Option ChangeId) → k.change_id ≡ o
      → is_accepted (packed m d r) o from ≡ true → (w : Window) → w ≡ window_from place o from.seq
      → answered m d c id (From from) steps ≡ Ok (areas_in c maps.changes w)
  since_is from None told accepted w is = absurd (false≢true accepted)
  since_is from (Some x) told accepted w is =
      ap (λ n. answered m d c n (From from) steps) (sym same)
      ∙ since_told now steps place (snapshot_at c maps (0 + place, k)) x from stands here told
      accepted
      ∙ ap (λ (bs : List ℕ). Ok (areas_of c bs))
      (same_blocks c (changed_in now (place + 1 - (x.seq - from.seq)) (place + 1))
      (is_touched_in maps.changes (window (place + 1 - (x.seq - from.seq)) (place + 1)))
      (λ b less. in_changes c maps ks (place + 1 - (x.seq - from.seq)) (place + 1) b (omega arith)
      (omega (arith, slice_get_within ks place k at)) less))
      ∙ ap (λ (v : Window). Ok (areas_in c maps.changes v)) (sym is)

  strange_is : (from : ChangeId) → is_accepted (packed m d r) k.change_id from ≡ false
      → answered m d c id (From from) steps ≡ Err (in_force_of (packed m d r) counted)
  strange_is from refused = ap (λ n. answered m d c n (From from) steps) (sym same)
      ∙ since_strange now steps place (snapshot_at c maps (0 + place, k)) from stands here refused

  pub page_told : (since : Since) (start : ℕ) (areas : List Run) (page : PageContents)
      → answered m d c id since steps ≡ Ok areas → page ≡ page_from c areas start
      → IfOk (answered m d c id since steps) (λ told. page ≡ page_from c told start)
  page_told since start areas page told is =
      (let P : Result (List Run) (Option ChangeId)
      → Type 0 = λ x. IfOk x (λ told. page ≡ page_from c told start) in subst P (sym told) is)

  pub told_accepts : {T : Type 0} (since : Since) (start : ℕ) (areas : List Run)
      (x : Result T TrackRefused) → start < c → answered m d c id since steps ≡ Ok areas → IsOk x
      → IsRefusedBy (query_refusal m d c id since start steps) x
  told_accepts since start areas x less told ok =
      query_known (list_any (freezes id) steps) _ x known (query_within _ _ x (lt-ltb start c less)
      (let P : Result (List Run) (Option ChangeId)
      → Type 0 = λ y. IsRefusedBy (strange_refusal y) x in subst P (sym told) ok))

  pub all_page : (start : ℕ) (page : PageContents) (since : Since) → since ≡ All
      → page ≡ page_from c (areas_in c maps.first (window 0 (place + 1))) start
      → IfOk (answered m d c id since steps) (λ told. page ≡ page_from c told start)
  all_page start page since is told =
      page_told since start (areas_in c maps.first (window 0 (place + 1))) page
      (ap (λ (s : Since). answered m d c id s steps) is ∙ all_is) told

  pub all_accepts : {T : Type 0} (start : ℕ) (since : Since) (x : Result T TrackRefused)
      → since ≡ All → start < c → IsOk x → IsRefusedBy (query_refusal m d c id since start steps) x
  all_accepts start since x is less ok =
      told_accepts since start (areas_in c maps.first (window 0 (place + 1))) x less
      (ap (λ (s : Since). answered m d c id s steps) is ∙ all_is) ok

  pub since_page : (start : ℕ) (page : PageContents) (since : Since) (from : ChangeId) (w : Window)
      → since ≡ From from → is_accepted (packed m d r) k.change_id from ≡ true
      → w ≡ window_from place k.change_id from.seq
      → page ≡ page_from c (areas_in c maps.changes w) start
      → IfOk (answered m d c id since steps) (λ told. page ≡ page_from c told start)
  since_page start page since from w is accepted w_is told =
      page_told since start (areas_in c maps.changes w) page
      (ap (λ (s : Since). answered m d c id s steps) is
      ∙ since_is from k.change_id refl accepted w w_is) told

  pub since_accepts : {T : Type 0} (start : ℕ) (since : Since) (from : ChangeId) (w : Window)
      (x : Result T TrackRefused) → since ≡ From from → start < c
      → is_accepted (packed m d r) k.change_id from ≡ true
      → w ≡ window_from place k.change_id from.seq → IsOk x
      → IsRefusedBy (query_refusal m d c id since start steps) x
  since_accepts start since from w x is less accepted w_is ok =
      told_accepts since start (areas_in c maps.changes w) x less
      (ap (λ (s : Since). answered m d c id s steps) is
      ∙ since_is from k.change_id refl accepted w w_is) ok

  pub since_refuses : {T : Type 0} (start : ℕ) (since : Since) (from : ChangeId)
      (x : Result T TrackRefused) → since ≡ From from → start < c
      → is_accepted (packed m d r) k.change_id from ≡ false
      → x ≡ Err (Strange (in_force_of (packed m d r) counted))
      → IsRefusedBy (query_refusal m d c id since start steps) x
  since_refuses start since from x is less refused told =
      query_known (list_any (freezes id) steps) _ x known (query_within _ _ x (lt-ltb start c less)
      (let P : Result (List Run) (Option ChangeId)
      → Type 0 = λ y. IsRefusedBy (strange_refusal y) x in
      subst P (sym (ap (λ (s : Since). answered m d c id s steps) is ∙ strange_is from refused))
      told))

  pub outside_refuses : {T : Type 0} (start : ℕ) (since : Since) (x : Result T TrackRefused)
      → c ≤ start → x ≡ Err Range → IsRefusedBy (query_refusal m d c id since start steps) x
  outside_refuses start since x past told =
      query_known (list_any (freezes id) steps) _ x known
      (query_outside _ _ x (le-ltb start c past) told)

pub unknown_refuses : {T : Type 0} (m d c r : ℕ) (counted : Option ℕ) (maps : Maps)
    (ks : List FrozenSnapshot)
    (free : ℕ) (room : Option Run) (freeze_room : Bool) (id : ℕ) (steps : List TrackStep)
    → StandsFor (state_of m d c r counted maps ks free room freeze_room) steps
    → list_any (λ k. k.id == id) ks ≡ false
    → (start : ℕ) (since : Since) (x : Result T TrackRefused) → x ≡ Err UnknownSnap
    → IsRefusedBy (query_refusal m d c id since start steps) x
unknown_refuses m d c r counted maps ks free room freeze_room id steps stands none start since x
    told =
    query_unknown (list_any (freezes id) steps) _ x
    (sym (stands.known id) ∙ view_find c maps 0 id ks ∙ none) told

pub some_window : (b : Bool) (o : Option Window) (w v : Window)
    → MatchBool b (o ≡ Some w) (o ≡ None) → o ≡ Some v → (b ≡ true) × (v ≡ w)
some_window true o w v is told = (refl, same_Some v w (sym told ∙ is))
some_window false o w v is told = absurd (none-some v (sym is ∙ told))

pub no_window : (b : Bool) (o : Option Window) (w : Window) → MatchBool b (o ≡ Some w) (o ≡ None)
    → o ≡ None → b ≡ false
no_window true o w is told = absurd (none-some w (sym told ∙ is))
no_window false o w is told = refl
