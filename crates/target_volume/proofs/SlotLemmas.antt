-- Slots of a store in memory: they stay kept, and what a step in them is as a step of the store.
use Rattle.std.proofs.Common.{◌≡◌, ℕ, ◌-◌, ◌≤◌, Bool, true, false, ◌&&◌, cond, List, [], ◌∷◌, length, map, Option, Some, None, option_map, option_and_then, ◌==◌, IsTrue, Ordering, Less, Equal, Greater, ap, sym, ◌∙◌, refl, subst, ◌⊎◌, inl, inr, arith}
use Rattle.std.proofs.lemmas.Bool.{and_parts, false≢true, true≢false}
use Rattle.std.proofs.lemmas.List.Elements.{All-from_recursion, recursion_from_All}
use Rattle.std.proofs.lemmas.List.{length-replicate}
use Rattle.std.specs.Prelude.{IfSome, IsSome, IsSomeAnd, is_some}
use Rattle.sector_model.specs.Sector.{filled}
use Rattle.sector_model.specs.VolumeContents.{IsSized}
use Rattle.std.specs.BTreeMap.{is_at, insert_entry}
use Rattle.std.specs.List.{AllByRecursion, filter_map}
use Rattle.std.specs.List.Sorted.{IsStrictlySortedBy}
use Rattle.std.specs.Map.{lookup}
use Rattle.std.specs.Ordering.{match_ordering}
use Rattle.basics.specs.Calls.{CallLog, never_fails, after_call}
use Rattle.basics.specs.Faults.{counted_by}
use Rattle.target_volume.specs.MemVolume.{HeldState, MemVolumeState, volume_state}
use Rattle.target_volume.specs.MemVolumes.{SlotState, Home, Lent, MemVolumesState, slot_state, stored_of, loan_in, named_loan, IsCountedIn, AreCountedIn, IsWhole, volume_calls, store_state, next_volume, after_opening, after_keeping, IsHome, IsHomeWith, IsLent, IsLentWith}
use Rattle.target_volume.specs.VolumeName.{volume_cmp, volumes_total, find_volume, with_volume, without_volume, AreAscending}
use Rattle.target_volume.specs.VolumeStore.{StoredVolume, Loan, Lends, IsThere, IsOrderly, after_lending, after_taking_back}
use Rattle.target_volume.specs.declared.mem_volume.Held.{Held}
use Rattle.target_volume.specs.declared.mem_volumes.Slot.{Slot}
use Rattle.target_volume.specs.declared.mem_volumes.Slot.TheVariants.{Home as SlotHome, Lent as SlotLent}
use Rattle.target_volume.specs.declared.volume_name.VolumeName.{VolumeName}
use Rattle.target_volume.proofs.PairLemmas.{map_values-insert_entry, lookup-map_values, keys-map_values, kept-insert_entry, kept-without, lookup_kept, sorted_kept}
use Rattle.target_volume.proofs.NameLemmas.{exact_volumes}

-- ---- what is kept stays kept

abbrev CountedAt : (sound : Bool) (faults : ℕ) → VolumeName × Slot → Type 0
CountedAt sound faults slot = IsCountedIn sound faults (slot_state slot.1)

abbrev AreCountedByRecursion : (sound : Bool) (faults : ℕ) → List (VolumeName × Slot) → Type 0
AreCountedByRecursion sound faults es = AllByRecursion (CountedAt sound faults) es

put_step : (sound : Bool) (faults : ℕ) (name : VolumeName) (slot : Slot) (e : VolumeName × Slot)
    (es : List (VolumeName × Slot)) (r : Ordering) → IsCountedIn sound faults (slot_state slot)
    → IsCountedIn sound faults (slot_state e.1) → AreCountedByRecursion sound faults es
    → AreCountedByRecursion sound faults (insert_entry volume_cmp es name slot)
    → AreCountedByRecursion sound faults
    (match_ordering r ((name, slot) ∷ e ∷ es) ((e.0, slot) ∷ es)
    (e ∷ insert_entry volume_cmp es name slot))
put_step sound faults name slot e es Less put first kept rest = (put, (first, kept))
put_step sound faults name slot e es Equal put first kept rest = (put, kept)
put_step sound faults name slot e es Greater put first kept rest = (first, rest)

put_each : (sound : Bool) (faults : ℕ) (name : VolumeName) (slot : Slot)
    (es : List (VolumeName × Slot)) → IsCountedIn sound faults (slot_state slot)
    → AreCountedByRecursion sound faults es
    → AreCountedByRecursion sound faults (insert_entry volume_cmp es name slot)
put_each sound faults name slot [] put kept = (put, tt)
put_each sound faults name slot (e ∷ es) put kept =
    put_step sound faults name slot e es (volume_cmp name e.0) put kept.0 kept.1
    (put_each sound faults name slot es put kept.1)

one_later : (sound less : Bool) (faults more : ℕ) (slot : SlotState)
    → (IsTrue less → IsTrue sound) → faults ≤ more → IsCountedIn sound faults slot
    → IsCountedIn less more slot
one_later sound less faults more (Home h) still later kept =
    (kept.0, omega arith, λ t. kept.2 (still t))
one_later sound less faults more (Lent loan) still later kept = omega arith

later_each : (sound less : Bool) (faults more : ℕ) (es : List (VolumeName × Slot))
    → (IsTrue less → IsTrue sound) → faults ≤ more → AreCountedByRecursion sound faults es
    → AreCountedByRecursion less more es
later_each sound less faults more [] still later kept = tt
later_each sound less faults more (e ∷ es) still later kept = (
  one_later sound less faults more (slot_state e.1) still later kept.0,
  later_each sound less faults more es still later kept.1,
)

found_step : (sound : Bool) (faults : ℕ) (e : VolumeName × Slot) (b : Bool) (rest : Option Slot)
    (slot : Slot) → IsCountedIn sound faults (slot_state e.1)
    → (rest ≡ Some slot → IsCountedIn sound faults (slot_state slot))
    → cond b (Some e.1) rest ≡ Some slot → IsCountedIn sound faults (slot_state slot)
found_step sound faults e true rest slot first others found =
    let same : e.1 ≡ slot = cc in
    subst (λ s. IsCountedIn sound faults (slot_state s)) same first
found_step sound faults e false rest slot first others found = others found

found_each : (sound : Bool) (faults : ℕ) (t : VolumeName → Bool)
    (es : List (VolumeName × Slot)) (slot : Slot) → AreCountedByRecursion sound faults es
    → lookup t es ≡ Some slot → IsCountedIn sound faults (slot_state slot)
found_each sound faults t [] slot kept found = cc
found_each sound faults t (e ∷ es) slot kept found =
    found_step sound faults e (t e.0) (lookup t es) slot kept.0
    (found_each sound faults t es slot kept.1) found

pub kept_put : (sound : Bool) (faults : ℕ) (name : VolumeName) (slot : Slot)
    (es : List (VolumeName × Slot)) → IsCountedIn sound faults (slot_state slot)
    → AreCountedIn sound faults es
    → AreCountedIn sound faults (insert_entry volume_cmp es name slot)
kept_put sound faults name slot es put kept =
    All-from_recursion (CountedAt sound faults) (insert_entry volume_cmp es name slot)
    (put_each sound faults name slot es put (recursion_from_All (CountedAt sound faults) es kept))

pub kept_later : (sound less : Bool) (faults more : ℕ) (es : List (VolumeName × Slot))
    → (IsTrue less → IsTrue sound) → faults ≤ more → AreCountedIn sound faults es
    → AreCountedIn less more es
kept_later sound less faults more es still later kept =
    All-from_recursion (CountedAt less more) es
    (later_each sound less faults more es still later
    (recursion_from_All (CountedAt sound faults) es kept))

pub kept_found : (sound : Bool) (faults : ℕ) (t : VolumeName → Bool)
    (es : List (VolumeName × Slot)) (slot : Slot) → AreCountedIn sound faults es
    → lookup t es ≡ Some slot → IsCountedIn sound faults (slot_state slot)
kept_found sound faults t es slot kept found =
    found_each sound faults t es slot (recursion_from_All (CountedAt sound faults) es kept) found

-- ---- a whole store stays whole

-- calls of its own
pub whole_called : (sound : Bool) (failing : List ℕ) (calls after : CallLog)
    (es : List (VolumeName × Slot)) → IsWhole sound failing calls es
    → after.failing ≡ calls.failing → calls.faults ≤ after.faults
    → IsWhole sound failing after es
whole_called sound failing calls after es whole same later = record {
  own = λ t. ap (λ f. length f == 0) same ∙ whole.own t;
  given = whole.given;
  kept = kept_later sound sound calls.faults after.faults es (λ t. t) later whole.kept;
  ordered = whole.ordered;
}

-- a slot that is put in
pub whole_put : (sound : Bool) (failing : List ℕ) (calls : CallLog) (name : VolumeName)
    (slot : Slot) (es after : List (VolumeName × Slot)) → IsWhole sound failing calls es
    → IsCountedIn sound calls.faults (slot_state slot)
    → after ≡ insert_entry volume_cmp es name slot
    → AreAscending after → IsWhole sound failing calls after
whole_put sound failing calls name slot es after whole put is ordered = record {
  own = whole.own;
  given = whole.given;
  kept = subst (λ l. AreCountedIn sound calls.faults l) (sym is)
      (kept_put sound calls.faults name slot es put whole.kept);
  ordered = ordered;
}

-- ---- the slots as their store tells them

abbrev pub slots_of : List (VolumeName × Slot) → List (VolumeName × SlotState)
slots_of es = map (λ slot. (slot.0, slot_state slot.1)) es

pub slots_put : (name : VolumeName) (slot : Slot) (es : List (VolumeName × Slot))
    → slots_of (insert_entry volume_cmp es name slot)
    ≡ with_volume name (slot_state slot) (slots_of es)
slots_put name slot es = map_values-insert_entry volume_cmp slot_state name slot es

pub slots_found : (name : VolumeName) (es : List (VolumeName × Slot))
    → find_volume name (slots_of es) ≡ option_map slot_state (lookup (is_at (volume_cmp name)) es)
slots_found name es = lookup-map_values slot_state (is_at (volume_cmp name)) es

pub slots_ordered : (es : List (VolumeName × Slot)) → AreAscending es → AreAscending (slots_of es)
slots_ordered es ordered =
    subst (λ ks. IsStrictlySortedBy volume_cmp ks) (sym (keys-map_values slot_state es)) ordered

abbrev pub told_of : List (VolumeName × SlotState) → List (VolumeName × StoredVolume)
told_of slots = map (λ slot. (slot.0, stored_of slot.1)) slots

pub told_put : (name : VolumeName) (slot : SlotState) (slots : List (VolumeName × SlotState))
    → told_of (with_volume name slot slots) ≡ with_volume name (stored_of slot) (told_of slots)
told_put name slot slots = map_values-insert_entry volume_cmp stored_of name slot slots

pub told_found : (name : VolumeName) (slots : List (VolumeName × SlotState))
    → find_volume name (told_of slots) ≡ option_map stored_of (find_volume name slots)
told_found name slots = lookup-map_values stored_of (is_at (volume_cmp name)) slots

pub told_ordered : (slots : List (VolumeName × SlotState)) → AreAscending slots
    → AreAscending (told_of slots)
told_ordered slots ordered =
    subst (λ ks. IsStrictlySortedBy volume_cmp ks) (sym (keys-map_values stored_of slots)) ordered

pub loans_put : (name : VolumeName) (loan : Loan) (slots : List (VolumeName × SlotState))
    → AreAscending slots
    → filter_map named_loan (with_volume name (Lent loan) slots)
    ≡ with_volume name loan (filter_map named_loan slots)
loans_put name loan slots ordered =
    kept-insert_entry volumes_total loan_in exact_volumes name (Lent loan) loan slots refl ordered

pub loans_taken : (name : VolumeName) (h : HeldState) (slots : List (VolumeName × SlotState))
    → AreAscending slots
    → filter_map named_loan (with_volume name (Home h) slots)
    ≡ without_volume name (filter_map named_loan slots)
loans_taken name h slots ordered =
    kept-without volumes_total loan_in name (Home h) slots refl ordered

pub loans_found : (name : VolumeName) (slots : List (VolumeName × SlotState)) → AreAscending slots
    → find_volume name (filter_map named_loan slots)
    ≡ option_and_then loan_in (find_volume name slots)
loans_found name slots ordered = lookup_kept volumes_total loan_in name slots ordered

pub loans_ordered : (slots : List (VolumeName × SlotState)) → AreAscending slots
    → AreAscending (filter_map named_loan slots)
loans_ordered slots ordered = sorted_kept volumes_total loan_in slots ordered

-- the numbers of a volume's calls, where none were given
pub none_given : (i : ℕ) (failing : List ℕ) → length failing ≡ 0
    → never_fails (record { failing = volume_calls i failing; made = 0; faults = 0 }) ≡ true
none_given i [] none = refl
none_given i (n ∷ failing) none = absurd (omega (arith, none))

-- ---- steps of a store's state

pub remade : (inside now : MemVolumesState) (n : ℕ) (l : List (VolumeName × SlotState))
    (name : VolumeName) (slot : SlotState) → inside ≡ now → n ≡ counted_by 1 inside.created
    → l ≡ with_volume name slot inside.slots
    → record inside { created = n; slots = l }
    ≡ record now { created = counted_by 1 now.created; slots = with_volume name slot now.slots }
remade inside now n l name slot same count put = cc

-- ---- what is told under a name

pub told_at : (name : VolumeName) (es : List (VolumeName × Slot))
    → find_volume name (told_of (slots_of es))
    ≡ option_map stored_of (option_map slot_state (lookup (is_at (volume_cmp name)) es))
told_at name es = told_found name (slots_of es) ∙ ap (option_map stored_of) (slots_found name es)

capacity_in : (found : Option Slot)
    → option_map (λ slot. (stored_of (slot_state slot)).capacity) found
    ≡ option_map (λ v. v.capacity) (option_map stored_of (option_map slot_state found))
capacity_in None = refl
capacity_in (Some slot) = refl

pub capacity_at : (name : VolumeName) (es : List (VolumeName × Slot)) (found : Option Slot)
    → found ≡ lookup (is_at (volume_cmp name)) es
    → option_map (λ slot. (stored_of (slot_state slot)).capacity) found
    ≡ option_map (λ v. v.capacity) (find_volume name (told_of (slots_of es)))
capacity_at name es found is =
    capacity_in found
    ∙ ap (λ o. option_map (λ (v : StoredVolume). v.capacity)
    (option_map stored_of (option_map slot_state o))) is
    ∙ sym (ap (option_map (λ (v : StoredVolume). v.capacity)) (told_at name es))

told_some : (found : Option Slot)
    → is_some (option_map stored_of (option_map slot_state found)) ≡ is_some found
told_some None = refl
told_some (Some slot) = refl

pub told_is_some : (name : VolumeName) (es : List (VolumeName × Slot))
    → is_some (find_volume name (told_of (slots_of es)))
    ≡ is_some (lookup (is_at (volume_cmp name)) es)
told_is_some name es =
    ap is_some (told_at name es) ∙ told_some (lookup (is_at (volume_cmp name)) es)

pub told_missing : (name : VolumeName) (es : List (VolumeName × Slot))
    → is_some (lookup (is_at (volume_cmp name)) es) ≡ false
    → IsSome (find_volume name (told_of (slots_of es))) → ⊥
told_missing name es none some = false≢true (sym none ∙ sym (told_is_some name es) ∙ some)

no_slot : (found : Option Slot) → is_some found ≡ false → option_map slot_state found ≡ None
no_slot None none = refl
no_slot (Some slot) none = absurd (true≢false none)

pub slot_missing : (name : VolumeName) (es : List (VolumeName × Slot))
    → is_some (lookup (is_at (volume_cmp name)) es) ≡ false
    → find_volume name (slots_of es) ≡ None
slot_missing name es none =
    slots_found name es ∙ no_slot (lookup (is_at (volume_cmp name)) es) none

-- ---- lending

-- a step of the slots that lends a volume out is one of the store's state
pub lending : (s : MemVolumesState) (calls : CallLog) (created : ℕ) (name : VolumeName)
    (loan : Loan) → AreAscending s.slots → calls.faults ≡ s.calls.faults
    → store_state (record s {
      calls = calls;
      created = created;
      slots = with_volume name (Lent loan) s.slots;
    }) ≡ after_lending name loan.capacity loan.faults (store_state s)
lending s calls created name loan ordered same =
    let volumes = told_put name (Lent loan) s.slots in
    let loans = loans_put name loan s.slots ordered in
    cc

-- the volume that `create` makes is lent out
pub lends_created : (s now after : MemVolumesState) (calls : CallLog) (name : VolumeName)
    (capacity : ℕ) (vol : MemVolumeState) → s ≡ now → AreAscending s.slots
    → find_volume name s.slots ≡ None → (IsTrue s.sound → length s.failing ≡ 0)
    → calls ≡ after_call s.calls true
    → vol ≡ next_volume name capacity (record s { calls = calls })
    → after ≡ record s {
      calls = calls;
      created = counted_by 1 s.created;
      slots = with_volume name (Lent (record { capacity = capacity; faults = 0 })) s.slots;
    }
    → Lends name capacity (volume_state vol) (store_state now) (store_state after)
lends_created s now after calls name capacity vol same ordered none given called made left =
    subst (λ (v : MemVolumeState). Lends name capacity (volume_state v) (store_state now)
    (store_state after)) (sym made)
    (subst (λ (t : MemVolumesState). Lends name capacity
    (volume_state (next_volume name capacity (record s { calls = calls })))
    (store_state t) (store_state after)) same
    (record {
      named = refl;
      sized = length-replicate capacity (filled s.junk);
      free = loans_found name s.slots ordered ∙ ap (option_and_then loan_in) none;
      lent = ap store_state left
          ∙ lending s calls (counted_by 1 s.created) name
          (record { capacity = capacity; faults = 0 })
          ordered (ap (λ (l : CallLog). l.faults) called);
      counted = omega arith;
      sound = λ t. none_given (counted_by 1 s.created) s.failing (given t);
    }))

-- a volume that was at home is lent out
pub lends_opened : (s now : MemVolumesState) (calls : CallLog)
    (slots : List (VolumeName × SlotState)) (called_name name : VolumeName)
    (capacity faults : ℕ) (h : HeldState) → s ≡ now → called_name ≡ name → AreAscending s.slots
    → find_volume name s.slots ≡ Some (Home h) → length h.contents.sectors ≡ capacity
    → h.calls.faults ≡ faults → h.calls.faults ≤ s.calls.faults
    → (IsTrue s.sound → IsTrue (never_fails h.calls)) → calls ≡ after_call s.calls true
    → slots ≡ with_volume name (Lent (record { capacity = capacity; faults = faults })) s.slots
    → Lends name capacity (volume_state (record { name = called_name; held = h }))
    (store_state now) (store_state (record s { calls = calls; slots = slots }))
lends_opened s now calls slots called_name name capacity faults h same named ordered found sized
    counted inside sound called put =
    let loan : Loan = record { capacity = capacity; faults = faults } in
    let after : store_state (record s { calls = calls; slots = slots })
    ≡ after_lending name capacity faults (store_state s) =
    ap (λ (l : List (VolumeName × SlotState)). store_state (record s { calls = calls; slots = l }))
    put
    ∙ lending s calls s.created name loan ordered (ap (λ (l : CallLog). l.faults) called) in
    subst (λ (t : MemVolumesState). Lends name capacity
    (volume_state (record { name = called_name; held = h }))
    (store_state t) (store_state (record s { calls = calls; slots = slots }))) same
    (record {
      named = ap Some named;
      sized = sized;
      free = loans_found name s.slots ordered ∙ ap (option_and_then loan_in) found;
      lent = after
          ∙ ap (λ (n : ℕ). after_lending name capacity n (store_state s)) (sym counted);
      counted = inside;
      sound = sound;
    })

pub opened_state : (s now : MemVolumesState) (calls : CallLog)
    (slots : List (VolumeName × SlotState)) (called_name name : VolumeName)
    (capacity faults : ℕ) (h : HeldState) → s ≡ now → called_name ≡ name
    → length h.contents.sectors ≡ capacity → h.calls.faults ≡ faults
    → calls ≡ after_call s.calls true
    → slots ≡ with_volume name (Lent (record { capacity = capacity; faults = faults })) s.slots
    → record s { calls = calls; slots = slots }
    ≡ after_opening (record { name = called_name; held = h }) now
opened_state s now calls slots called_name name capacity faults h same named sized counted called
    put =
    subst (λ (t : MemVolumesState). record s { calls = calls; slots = slots }
    ≡ after_opening (record { name = called_name; held = h }) t) same
    (ap (λ (p : List (VolumeName × SlotState)). record s { calls = calls; slots = p }) put
    ∙ ap (λ (l : CallLog). record s {
      calls = l;
      slots = with_volume name (Lent (record { capacity = capacity; faults = faults })) s.slots;
    }) called
    ∙ ap (λ (n : VolumeName). record s {
      calls = after_call s.calls true;
      slots = with_volume n (Lent (record { capacity = capacity; faults = faults })) s.slots;
    }) (sym named)
    ∙ ap (λ (k : ℕ). record s {
      calls = after_call s.calls true;
      slots = with_volume called_name (Lent (record { capacity = k; faults = faults })) s.slots;
    }) (sym sized)
    ∙ ap (λ (k : ℕ). record s {
      calls = after_call s.calls true;
      slots = with_volume called_name
          (Lent (record { capacity = length h.contents.sectors; faults = k })) s.slots;
    }) (sym counted))

-- what is there is at home
there_home : (capacity : ℕ) (found : Option Slot)
    → IsSomeAnd (option_map stored_of (option_map slot_state found))
    (λ stored. (stored.capacity ≡ capacity) × IsSome stored.contents)
    → IsHome capacity (option_map slot_state found)
there_home capacity None there = there
there_home capacity (Some (SlotHome held)) there = there.0
there_home capacity (Some (SlotLent c faults)) there = absurd (false≢true there.1)

pub not_there : (name : VolumeName) (capacity : ℕ) (es : List (VolumeName × Slot))
    → (IsHome capacity (option_map slot_state (lookup (is_at (volume_cmp name)) es)) → ⊥)
    → IsThere name capacity (told_of (slots_of es)) → ⊥
not_there name capacity es away there =
    away (there_home capacity (lookup (is_at (volume_cmp name)) es)
    (subst (λ (o : Option StoredVolume). IsSomeAnd o
    (λ stored. (stored.capacity ≡ capacity) × IsSome stored.contents))
    (told_at name es) there))

pub away_at : (name : VolumeName) (capacity : ℕ) (es : List (VolumeName × Slot))
    → (IsHome capacity (option_map slot_state (lookup (is_at (volume_cmp name)) es)) → ⊥)
    → IsHome capacity (find_volume name (slots_of es)) → ⊥
away_at name capacity es away home =
    away (subst (λ (o : Option SlotState). IsHome capacity o) (slots_found name es) home)

home_only : (capacity faults : ℕ) (o : Option SlotState) → IsHomeWith capacity faults o
    → IsHome capacity o
home_only capacity faults None home = home
home_only capacity faults (Some (Home h)) home = home.0
home_only capacity faults (Some (Lent loan)) home = home

pub home_at : (name : VolumeName) (capacity faults : ℕ) (es : List (VolumeName × Slot))
    → IsHomeWith capacity faults (option_map slot_state (lookup (is_at (volume_cmp name)) es))
    → IsHome capacity (find_volume name (slots_of es))
home_at name capacity faults es home =
    home_only capacity faults (find_volume name (slots_of es))
    (subst (λ (o : Option SlotState). IsHomeWith capacity faults o) (sym (slots_found name es))
    home)

-- ---- taking back

pub loan_slot : (o : Option SlotState) (loan : Loan) → option_and_then loan_in o ≡ Some loan
    → o ≡ Some (Lent loan)
loan_slot None loan found = cc
loan_slot (Some (Home h)) loan found = cc
loan_slot (Some (Lent l)) loan found = cc

lent_there : (P : Loan → Type 0) (o : Option SlotState)
    → IsSomeAnd (option_and_then loan_in o) P → IsLent o
lent_there P None lent = lent
lent_there P (Some (Home h)) lent = lent
lent_there P (Some (Lent loan)) lent = tt

-- what the store has lent out stands in its slot as lent
pub lent_at : (P : Loan → Type 0) (name : VolumeName) (es : List (VolumeName × Slot))
    → AreAscending es
    → IsSomeAnd (find_volume name (filter_map named_loan (slots_of es))) P
    → IsLent (option_map slot_state (lookup (is_at (volume_cmp name)) es))
lent_at P name es ordered lent =
    subst (λ (o : Option SlotState). IsLent o) (slots_found name es)
    (lent_there P (find_volume name (slots_of es))
    (subst (λ (o : Option Loan). IsSomeAnd o P)
    (loans_found name (slots_of es) (slots_ordered es ordered)) lent))

pub not_lent : (found : Option Slot) → IsLent (option_map slot_state found) → found ≡ None → ⊥
not_lent None lent none = lent
not_lent (Some slot) lent none = cc

-- its count of faults as it went out is in the store's
lent_inside : (sound : Bool) (faults lent : ℕ) (found : Option Slot)
    → IsLentWith lent (option_map slot_state found)
    → ((slot : Slot) → found ≡ Some slot → IsCountedIn sound faults (slot_state slot))
    → lent ≤ faults
lent_inside sound faults lent None with kept = absurd with
lent_inside sound faults lent (Some (SlotHome held)) with kept = absurd with
lent_inside sound faults lent (Some (SlotLent c f)) with kept =
    let inside : f ≤ faults = kept (SlotLent c f) refl in
    omega arith

pub lent_counted : (sound : Bool) (faults lent : ℕ) (name : VolumeName)
    (es : List (VolumeName × Slot)) → AreCountedIn sound faults es
    → IsLentWith lent (option_map slot_state (lookup (is_at (volume_cmp name)) es)) → lent ≤ faults
lent_counted sound faults lent name es kept with =
    lent_inside sound faults lent (lookup (is_at (volume_cmp name)) es) with
    (λ slot found. kept_found sound faults (is_at (volume_cmp name)) es slot kept found)

-- a store that took a volume back is whole
pub whole_kept : (sound more : Bool) (failing : List ℕ) (calls after : CallLog)
    (es slots : List (VolumeName × Slot)) (name : VolumeName) (held : Held)
    → IsWhole sound failing calls es
    → after.failing ≡ calls.failing → calls.faults ≤ after.faults
    → more ≡ (sound && never_fails held.calls)
    → length held.loose.items ≡ length held.sectors.items
    → held.calls.faults ≤ after.faults
    → slots ≡ insert_entry volume_cmp es name (SlotHome held) → AreAscending slots
    → IsWhole more failing after slots
whole_kept sound more failing calls after es slots name held whole same later both sized counted
    is ordered = record {
      own = λ t. ap (λ f. length f == 0) same
          ∙ whole.own (and_parts sound (never_fails held.calls) (sym both ∙ t)).0;
      given = λ t. whole.given (and_parts sound (never_fails held.calls) (sym both ∙ t)).0;
      kept = subst (λ l. AreCountedIn more after.faults l) (sym is)
          (kept_put more after.faults name (SlotHome held) es (
            (refl, sized),
            counted,
            λ t. (and_parts sound (never_fails held.calls) (sym both ∙ t)).1,
          )
          (kept_later sound more calls.faults after.faults es
          (λ t. (and_parts sound (never_fails held.calls) (sym both ∙ t)).0) later whole.kept));
      ordered = ordered;
    }

kept_whole : (s : MemVolumesState) (v : MemVolumeState) (calls : CallLog) (sound : Bool)
    (slots : List (VolumeName × SlotState)) (lent : ℕ) (loan : Loan)
    → calls ≡ record s.calls {
      faults = counted_by (v.held.calls.faults - lent) s.calls.faults;
    }
    → sound ≡ (s.sound && never_fails v.held.calls)
    → slots ≡ with_volume v.name (Home v.held) s.slots → loan.faults ≡ lent
    → record s { calls = calls; sound = sound; slots = slots } ≡ after_keeping loan.faults v s
kept_whole s v calls sound slots lent loan called both put counted =
    ap (λ (l : CallLog). record s { calls = l; sound = sound; slots = slots }) called
    ∙ ap (λ (b : Bool). record s {
      calls = record s.calls {
        faults = counted_by (v.held.calls.faults - lent) s.calls.faults;
      };
      sound = b;
      slots = slots;
    }) both
    ∙ ap (λ (l : List (VolumeName × SlotState)). record s {
      calls = record s.calls {
        faults = counted_by (v.held.calls.faults - lent) s.calls.faults;
      };
      sound = s.sound && never_fails v.held.calls;
      slots = l;
    }) put
    ∙ ap (λ (n : ℕ). after_keeping n v s) (sym counted)

-- taking a volume back is one step of the store in memory
pub kept_state : (s now : MemVolumesState) (v vol : MemVolumeState) (calls : CallLog)
    (sound : Bool) (slots : List (VolumeName × SlotState)) (lent : ℕ) (loan : Loan)
    (found : Option SlotState) → s ≡ now → v ≡ vol
    → calls ≡ record s.calls {
      faults = counted_by (v.held.calls.faults - lent) s.calls.faults;
    }
    → sound ≡ (s.sound && never_fails v.held.calls)
    → slots ≡ with_volume v.name (Home v.held) s.slots
    → find_volume v.name s.slots ≡ found → IsLentWith lent found
    → find_volume vol.name now.slots ≡ Some (Lent loan)
    → record s { calls = calls; sound = sound; slots = slots } ≡ after_keeping loan.faults vol now
kept_state s now v vol calls sound slots lent loan found same samev called both put there with
    lentout =
    let here : find_volume v.name s.slots ≡ Some (Lent loan) =
    ap (λ (p : MemVolumeState × MemVolumesState). find_volume p.0.name p.1.slots)
    (pair samev same) ∙ lentout in
    let counted : loan.faults ≡ lent =
    subst (λ (o : Option SlotState). IsLentWith lent o) (sym there ∙ here) with in
    kept_whole s v calls sound slots lent loan called both put counted
    ∙ ap (λ (p : MemVolumeState × MemVolumesState). after_keeping loan.faults p.0 p.1)
    (pair samev same)
  where
    pair : {A B : Type 0} {a b : A} {c d : B} → a ≡ b → c ≡ d → ◌≡◌ {A = A × B} (a, c) (b, d)
    pair p q = cc

-- and of the store that it is
pub kept_as_taken : (s : MemVolumesState) (v : MemVolumeState) (name : VolumeName) (lent : ℕ)
    → AreAscending s.slots → v.name ≡ name
    → store_state (after_keeping lent v s)
    ≡ after_taking_back name lent (volume_state v) (store_state s)
kept_as_taken s v name lent ordered named =
    let volumes = told_put v.name (Home v.held) s.slots in
    let loans = loans_taken v.name v.held s.slots ordered in
    let here : store_state (after_keeping lent v s)
    ≡ after_taking_back v.name lent (volume_state v) (store_state s) = cc in
    here ∙ ap (λ (n : VolumeName). after_taking_back n lent (volume_state v) (store_state s)) named

pub lent_only : (lent : ℕ) (o : Option SlotState) → IsLentWith lent o → IsLent o
lent_only lent None counted = counted
lent_only lent (Some (Home h)) counted = counted
lent_only lent (Some (Lent loan)) counted = tt

-- ---- loans and slots

lent_capacity : (found : Option Slot)
    → IfSome (option_and_then loan_in (option_map slot_state found))
    (λ loan. option_map (λ slot. (stored_of (slot_state slot)).capacity) found
    ≡ Some loan.capacity)
lent_capacity None = tt
lent_capacity (Some (SlotHome held)) = tt
lent_capacity (Some (SlotLent c faults)) = refl

loans_at : (name : VolumeName) (es : List (VolumeName × Slot)) → AreAscending es
    → find_volume name (filter_map named_loan (slots_of es))
    ≡ option_and_then loan_in (option_map slot_state (lookup (is_at (volume_cmp name)) es))
loans_at name es ordered =
    loans_found name (slots_of es) (slots_ordered es ordered)
    ∙ ap (option_and_then loan_in) (slots_found name es)

-- what is lent out has the capacity that is told
pub lent_capacity_at : (name : VolumeName) (es : List (VolumeName × Slot)) (found : Option Slot)
    → AreAscending es → found ≡ lookup (is_at (volume_cmp name)) es
    → IfSome (find_volume name (filter_map named_loan (slots_of es)))
    (λ loan. option_map (λ slot. (stored_of (slot_state slot)).capacity) found
    ≡ Some loan.capacity)
lent_capacity_at name es found ordered is =
    subst (λ (o : Option Loan). IfSome o
    (λ loan. option_map (λ slot. (stored_of (slot_state slot)).capacity) found
    ≡ Some loan.capacity))
    (ap (λ (o : Option Slot). option_and_then loan_in (option_map slot_state o)) is
    ∙ sym (loans_at name es ordered))
    (lent_capacity found)

-- where no slot is, nothing is lent out
pub loans_missing : (name : VolumeName) (es : List (VolumeName × Slot)) → AreAscending es
    → is_some (lookup (is_at (volume_cmp name)) es) ≡ false
    → IsSome (find_volume name (filter_map named_loan (slots_of es))) → ⊥
loans_missing name es ordered none some =
    false≢true (sym (ap is_some (loans_at name es ordered
    ∙ ap (option_and_then loan_in) (no_slot (lookup (is_at (volume_cmp name)) es) none)))
    ∙ some)

home_unlent : (capacity faults : ℕ) (o : Option SlotState) → IsHomeWith capacity faults o
    → IsSome (option_and_then loan_in o) → ⊥
home_unlent capacity faults None home some = home
home_unlent capacity faults (Some (Home h)) home some = false≢true some
home_unlent capacity faults (Some (Lent loan)) home some = home

-- what is at home isn't lent out, and is there
pub home_not_lent : (name : VolumeName) (capacity faults : ℕ) (es : List (VolumeName × Slot))
    → AreAscending es
    → IsHomeWith capacity faults (option_map slot_state (lookup (is_at (volume_cmp name)) es))
    → IsSome (find_volume name (filter_map named_loan (slots_of es))) → ⊥
home_not_lent name capacity faults es ordered home some =
    home_unlent capacity faults (option_map slot_state (lookup (is_at (volume_cmp name)) es)) home
    (sym (ap is_some (loans_at name es ordered)) ∙ some)

home_there : (capacity faults : ℕ) (o : Option SlotState) → IsHomeWith capacity faults o
    → IsSomeAnd (option_map stored_of o)
    (λ stored. (stored.capacity ≡ capacity) × IsSome stored.contents)
home_there capacity faults None home = home
home_there capacity faults (Some (Home h)) home = (home.0, refl)
home_there capacity faults (Some (Lent loan)) home = absurd home

pub there_at : (name : VolumeName) (capacity faults : ℕ) (es : List (VolumeName × Slot))
    → IsHomeWith capacity faults (option_map slot_state (lookup (is_at (volume_cmp name)) es))
    → IsThere name capacity (told_of (slots_of es))
there_at name capacity faults es home =
    subst (λ (o : Option StoredVolume). IsSomeAnd o
    (λ stored. (stored.capacity ≡ capacity) × IsSome stored.contents)) (sym (told_at name es))
    (home_there capacity faults (option_map slot_state (lookup (is_at (volume_cmp name)) es)) home)

-- ---- a whole store is orderly

kept_told : (sound : Bool) (faults : ℕ) (found : Option Slot)
    → ((slot : Slot) → found ≡ Some slot → IsCountedIn sound faults (slot_state slot))
    → (st : SlotState) → option_map slot_state found ≡ Some st → IsCountedIn sound faults st
kept_told sound faults None kept st is = cc
kept_told sound faults (Some slot) kept st is =
    let same : slot_state slot ≡ st = cc in
    subst (λ (t : SlotState). IsCountedIn sound faults t) same (kept slot refl)

home_case : (o : Option SlotState) → IfSome (option_map stored_of o)
    (λ v. IsSome v.contents ⊎ IsSome (option_and_then loan_in o))
home_case None = tt
home_case (Some (Home h)) = inl refl
home_case (Some (Lent loan)) = inr refl

sized_case : (sound : Bool) (faults : ℕ) (o : Option SlotState)
    → ((st : SlotState) → o ≡ Some st → IsCountedIn sound faults st)
    → IfSome (option_map stored_of o) (λ v. IfSome v.contents (IsSized v.capacity))
sized_case sound faults None kept = tt
sized_case sound faults (Some (Home h)) kept = (kept (Home h) refl).0
sized_case sound faults (Some (Lent loan)) kept = tt

counted_case : (sound : Bool) (faults : ℕ) (o : Option SlotState)
    → ((st : SlotState) → o ≡ Some st → IsCountedIn sound faults st)
    → IfSome (option_and_then loan_in o) (λ loan. loan.faults ≤ faults)
counted_case sound faults None kept = tt
counted_case sound faults (Some (Home h)) kept = tt
counted_case sound faults (Some (Lent loan)) kept = kept (Lent loan) refl

orderly : (s : MemVolumesState) (es : List (VolumeName × Slot)) → s.slots ≡ slots_of es
    → AreAscending es → AreCountedIn s.sound s.calls.faults es → IsOrderly (store_state s)
orderly s es is ordered kept =
    let ascending : AreAscending s.slots =
    subst (λ (l : List (VolumeName × SlotState)). AreAscending l) (sym is)
    (slots_ordered es ordered) in
    let each : (name : VolumeName) (st : SlotState) → find_volume name s.slots ≡ Some st
    → IsCountedIn s.sound s.calls.faults st = λ name st found.
    kept_told s.sound s.calls.faults (lookup (is_at (volume_cmp name)) es)
    (λ slot at. kept_found s.sound s.calls.faults (is_at (volume_cmp name)) es slot kept at) st
    (sym (slots_found name es)
    ∙ ap (λ (l : List (VolumeName × SlotState)). find_volume name l) (sym is) ∙ found) in
    record {
      volumes = told_ordered s.slots ascending;
      loans = loans_ordered s.slots ascending;
      lent = λ name loan found.
          told_found name s.slots
          ∙ ap (option_map stored_of) (loan_slot (find_volume name s.slots) loan
          (sym (loans_found name s.slots ascending) ∙ found));
      counted = λ name.
          subst (λ (o : Option Loan). IfSome o (λ loan. loan.faults ≤ s.calls.faults))
          (sym (loans_found name s.slots ascending))
          (counted_case s.sound s.calls.faults (find_volume name s.slots) (each name));
      home = λ name.
          subst (λ (o : Option StoredVolume). IfSome o
          (λ v. IsSome v.contents ⊎ IsSome (find_volume name (filter_map named_loan s.slots))))
          (sym (told_found name s.slots))
          (subst (λ (o : Option Loan). IfSome (option_map stored_of (find_volume name s.slots))
          (λ v. IsSome v.contents ⊎ IsSome o)) (sym (loans_found name s.slots ascending))
          (home_case (find_volume name s.slots)));
      sized = λ name.
          subst (λ (o : Option StoredVolume). IfSome o
          (λ v. IfSome v.contents (IsSized v.capacity)))
          (sym (told_found name s.slots))
          (sized_case s.sound s.calls.faults (find_volume name s.slots) (each name));
    }

pub orderly_now : (s now : MemVolumesState) (es : List (VolumeName × Slot)) → s ≡ now
    → s.slots ≡ slots_of es → AreAscending es → AreCountedIn s.sound s.calls.faults es
    → IsOrderly (store_state now)
orderly_now s now es same is ordered kept =
    subst (λ (t : MemVolumesState). IsOrderly (store_state t)) same (orderly s es is ordered kept)
