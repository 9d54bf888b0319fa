-- A live snapshot was taken, and one of a migration stays live while nothing under the number 1
-- follows.
use Rattle.std.proofs.Common.{◌≡◌, ℕ, ◌+◌, ◌<◌, ◌≤◌, List, [], ◌∷◌, ◌++◌, length, Bool, true, false, cond, not, ◌&&◌, ◌||◌, eqb, Option, Some, None, subst, sym, ap, refl, ◌∙◌, arith, append_assoc, length-append}
use Rattle.std.specs.List.{filter, list_any}
use Rattle.std.proofs.lemmas.Bool.{or_parts, eqb-true, eq-eqb, false≢true}
use Rattle.std.proofs.lemmas.Option.{none-some, same_Some}
use Rattle.std.proofs.lemmas.List.{append-nil}
use Rattle.std.proofs.lemmas.List.Folds.{position_or_len_push, list_any-append}
use Rattle.std.proofs.lemmas.List.Sums.{prefix_len-le-length}
use Rattle.log_model.specs.declared.entry.TheConstants.{MIGRATION_CALLER}
use Rattle.log_model.specs.declared.entry.Owner.{Owner}
use Rattle.log_model.specs.declared.entry.Owner.TheVariants.{Migration}
use Rattle.log_model.specs.declared.entry.Act.{Act}
use Rattle.log_model.specs.declared.entry.Act.TheVariants.{Write, Snap, Remove, Reset, Enable, Off, On}
use Rattle.log_model.specs.declared.entry.Entry.{Entry}
use Rattle.log_model.specs.Entry.{takes, removes}
use Rattle.log_model.specs.Legal.{Disks, Legal, ActMayStand, ActsFor, OwnerLets, taken, owner_of, owner_after}
use Rattle.log_model.specs.Marks.{mark}
use Rattle.log_model.specs.Link.{is_by}
use Rattle.log_model.specs.Laws.{MigrationsKeepTheirs, MigrationsGetNone, OthersLeaveMigrations}
use Rattle.change_id.proofs.Ends.{by_last}
use Rattle.log_model.proofs.LegalLogs.{legal_last, legal_front}
use Rattle.log_model.proofs.OwnedLaws.{owner_of-last, owned_taken}

-- ---- a live snapshot was taken

pushed : (n at : ℕ) (b p : Bool) → at ≤ n → p ≡ true → cond b (n + cond p 0 1) at < n + 1
pushed n at true true le passing = omega arith
pushed n at true false le passing = absurd (false≢true passing)
pushed n at false p le passing = omega arith

kept : (n at : ℕ) (b p : Bool) → at < n → eqb at n ≡ b → cond b (n + cond p 0 1) at < n + 1
kept n at true p less same = let e = eqb-true at n same in absurd (omega (arith, e))
kept n at false p less same = omega arith

-- where the last entry takes the snapshot, or it was taken before, its mark is within the log
pub mark-pushed : (s : ℕ) (log : List Entry) (e : Entry) → takes s e.act ≡ true
    → mark s (log ++ e ∷ []) < length (log ++ e ∷ [])
mark-pushed s log e passing =
    let p : Entry → Bool = λ x. takes s x.act in
    let at = position_or_len_push p log e in
    let le = prefix_len-le-length (λ x. not (p x)) log in
    let h = pushed (length log) (mark s log) (eqb (mark s log) (length log)) (p e) le passing in
    omega (arith, at, h, length-append log (e ∷ []))

pub mark-kept : (s : ℕ) (log : List Entry) (e : Entry) → mark s log < length log
    → mark s (log ++ e ∷ []) < length (log ++ e ∷ [])
mark-kept s log e less =
    let p : Entry → Bool = λ x. takes s x.act in
    let at = position_or_len_push p log e in
    let h = kept (length log) (mark s log) (eqb (mark s log) (length log)) (p e) less refl in
    omega (arith, at, h, length-append log (e ∷ []))

abbrev LiveTaken : List Entry → Type 0
LiveTaken log = (s : ℕ) (owner : Owner) → owner_of s log ≡ Some owner → mark s log < length log

snap-live : (s id : ℕ) (by owner : Owner) (log : List Entry) (e : Entry) (was : Option Owner)
    (b : Bool) → takes s e.act ≡ b → (was ≡ Some owner → mark s log < length log)
    → cond b (Some by) was ≡ Some owner → mark s (log ++ e ∷ []) < length (log ++ e ∷ [])
snap-live s id by owner log e was true is old h = mark-pushed s log e is
snap-live s id by owner log e was false is old h = mark-kept s log e (old h)

removed-live : (s : ℕ) (owner : Owner) (log : List Entry) (e : Entry) (was : Option Owner)
    (b : Bool) → (was ≡ Some owner → mark s log < length log)
    → cond b None was ≡ Some owner → mark s (log ++ e ∷ []) < length (log ++ e ∷ [])
removed-live s owner log e was true old h = absurd (none-some owner h)
removed-live s owner log e was false old h = mark-kept s log e (old h)

live-step : (log : List Entry) (who : ℕ) (act : Act) → LiveTaken log → (s : ℕ) (owner : Owner)
    → owner_after s (owner_of s log) (record { who = who; act = act }) ≡ Some owner
    → mark s (log ++ record { who = who; act = act } ∷ []) < length
    (log ++ record { who = who; act = act } ∷ [])
live-step log who (Write disk first sectors) old s owner h =
    mark-kept s log (record { who = who; act = Write disk first sectors }) (old s owner h)
live-step log who (Snap id by) old s owner h =
    snap-live s id by owner log (record { who = who; act = Snap id by }) (owner_of s log) (eqb id s)
    refl (old s owner) h
live-step log who (Remove id) old s owner h =
    removed-live s owner log (record { who = who; act = Remove id }) (owner_of s log) (eqb id s)
    (old s owner) h
live-step log who (Reset disk) old s owner h =
    mark-kept s log (record { who = who; act = Reset disk }) (old s owner h)
live-step log who Enable old s owner h =
    mark-kept s log (record { who = who; act = Enable }) (old s owner h)
live-step log who Off old s owner h =
    mark-kept s log (record { who = who; act = Off }) (old s owner h)
live-step log who On old s owner h =
    mark-kept s log (record { who = who; act = On }) (old s owner h)

pub live_taken : (log : List Entry) → LiveTaken log
live_taken =
    by_last LiveTaken (λ s owner h. absurd (none-some owner h))
    (λ log e old s owner h. live-step log e.who e.act old s owner (sym (owner_of-last s log e) ∙ h))

-- ---- a migration's snapshots

-- a test of more entries and one, that none passes
none-passes : (p : Entry → Bool) (more : List Entry) (e : Entry)
    → list_any p (more ++ e ∷ []) ≡ false → (list_any p more ≡ false) × (p e ≡ false)
none-passes p more e none =
    let parts = or_parts (list_any p more) (p e || false) (sym (list_any-append p more (e ∷ []))
    ∙ none) in
    (parts.0, (or_parts (p e) false parts.1).0)

other-snap : (s id n : ℕ) (by owner : Owner) (b : Bool) → eqb id s ≡ b → id ≡ n + 1 → s ≤ n
    → cond b (Some by) (Some owner) ≡ Some owner
other-snap s id n by owner true same next le = let e = eqb-true id s same in
    absurd (omega (arith, e))
other-snap s id n by owner false same next le = refl

other-removed : (s id who migration : ℕ) (log : List Entry) (b : Bool) → eqb id s ≡ b
    → owner_of s log ≡ Some (Migration migration) → OwnerLets who (owner_of id log)
    → (eqb who MIGRATION_CALLER && b) ≡ false
    → cond b None (Some (Migration migration)) ≡ Some (Migration migration)
other-removed s id who migration log true same owned lets other =
    let owner : owner_of id log ≡ Some (Migration migration) =
    ap (λ k. owner_of k log) (eqb-true id s same) ∙ owned in
    let one : who ≡ MIGRATION_CALLER = subst (OwnerLets who) owner lets in
    absurd (false≢true (sym other ∙ ap (λ b. b && true) (eq-eqb who MIGRATION_CALLER one)))
other-removed s id who migration log false same owned lets other = refl

keep-step : (disks : Disks) (log : List Entry) (s who migration : ℕ) (act : Act)
    → ActMayStand disks log who act → s ≤ taken log → owner_of s log ≡ Some (Migration migration)
    → (eqb who MIGRATION_CALLER && removes s act) ≡ false
    → owner_after s (Some (Migration migration)) (record { who = who; act = act })
    ≡ Some (Migration migration)
keep-step disks log s who migration (Write disk first sectors) stands le owned other = refl
keep-step disks log s who migration (Snap id by) stands le owned other =
    other-snap s id (taken log) by (Migration migration) (eqb id s) refl stands.0 le
keep-step disks log s who migration (Remove id) stands le owned other =
    other-removed s id who migration log (eqb id s) refl owned stands other
keep-step disks log s who migration (Reset disk) stands le owned other = refl
keep-step disks log s who migration Enable stands le owned other = refl
keep-step disks log s who migration Off stands le owned other = refl
keep-step disks log s who migration On stands le owned other = refl

abbrev under_caller : (Act → Bool) → Entry → Bool
under_caller does e = is_by MIGRATION_CALLER e && does e.act

abbrev Keeps : Disks → List Entry → ℕ → ℕ → List Entry → Type 0
Keeps disks log s migration more = Legal disks (log ++ more)
    → list_any (under_caller (removes s)) more ≡ false
    → owner_of s (log ++ more) ≡ Some (Migration migration)

keep-more : (disks : Disks) (log : List Entry) (s migration : ℕ) (more : List Entry) (e : Entry)
    → Keeps disks log s migration more → Keeps disks log s migration (more ++ e ∷ [])
keep-more disks log s migration more e rest legal out =
    let whole : log ++ (more ++ e ∷ []) ≡ (log ++ more) ++ e ∷ [] =
    sym (append_assoc log more (e ∷ [])) in
    let all : Legal disks ((log ++ more) ++ e ∷ []) = subst (Legal disks) whole legal in
    let front : Legal disks (log ++ more) = legal_front disks (log ++ more) (e ∷ []) all in
    let outs = none-passes (under_caller (removes s)) more e out in
    let owned : owner_of s (log ++ more) ≡ Some (Migration migration) = rest front outs.0 in
    let le : s ≤ taken (log ++ more) =
    owned_taken disks (log ++ more) front s (Migration migration) owned in
    ap (owner_of s) whole ∙ owner_of-last s (log ++ more) e
    ∙ ap (λ (o : Option Owner). owner_after s o e) owned
    ∙ keep-step disks (log ++ more) s e.who migration e.act (legal_last disks (log ++ more) e all)
    le owned outs.1

pub migrations_keep_theirs : MigrationsKeepTheirs
migrations_keep_theirs disks log more s migration legal owned out =
    by_last (Keeps disks log s migration) (λ _ _. ap (owner_of s) (append-nil log) ∙ owned)
    (λ more e rest. keep-more disks log s migration more e rest) more legal out

-- ---- and no new ones

snap-none : (s id who migration : ℕ) (by : Owner) (was : Option Owner) (b : Bool) → eqb id s ≡ b
    → ActsFor who by → (eqb who MIGRATION_CALLER && b) ≡ false
    → cond b (Some by) was ≡ Some (Migration migration) → was ≡ Some (Migration migration)
snap-none s id who migration by was true same acts other h =
    let one : who ≡ MIGRATION_CALLER =
    subst (ActsFor who) (same_Some by (Migration migration) h) acts in
    absurd (false≢true (sym other ∙ ap (λ b. b && true) (eq-eqb who MIGRATION_CALLER one)))
snap-none s id who migration by was false same acts other h = h

removed-none : (migration : ℕ) (was : Option Owner) (b : Bool)
    → cond b None was ≡ Some (Migration migration) → was ≡ Some (Migration migration)
removed-none migration was true h = absurd (none-some (Migration migration) h)
removed-none migration was false h = h

none-step : (disks : Disks) (log : List Entry) (s who migration : ℕ) (act : Act)
    → ActMayStand disks log who act → (eqb who MIGRATION_CALLER && takes s act) ≡ false
    → owner_after s (owner_of s log) (record { who = who; act = act }) ≡ Some (Migration migration)
    → owner_of s log ≡ Some (Migration migration)
none-step disks log s who migration (Write disk first sectors) stands other h = h
none-step disks log s who migration (Snap id by) stands other h =
    snap-none s id who migration by (owner_of s log) (eqb id s) refl stands.1 other h
none-step disks log s who migration (Remove id) stands other h =
    removed-none migration (owner_of s log) (eqb id s) h
none-step disks log s who migration (Reset disk) stands other h = h
none-step disks log s who migration Enable stands other h = h
none-step disks log s who migration Off stands other h = h
none-step disks log s who migration On stands other h = h

abbrev GetsNone : Disks → List Entry → ℕ → ℕ → List Entry → Type 0
GetsNone disks log s migration more = Legal disks (log ++ more)
    → owner_of s (log ++ more) ≡ Some (Migration migration)
    → list_any (under_caller (takes s)) more ≡ false
    → owner_of s log ≡ Some (Migration migration)

none-more : (disks : Disks) (log : List Entry) (s migration : ℕ) (more : List Entry) (e : Entry)
    → GetsNone disks log s migration more → GetsNone disks log s migration (more ++ e ∷ [])
none-more disks log s migration more e rest legal owned out =
    let whole : log ++ (more ++ e ∷ []) ≡ (log ++ more) ++ e ∷ [] =
    sym (append_assoc log more (e ∷ [])) in
    let all : Legal disks ((log ++ more) ++ e ∷ []) = subst (Legal disks) whole legal in
    let outs = none-passes (under_caller (takes s)) more e out in
    let after : owner_after s (owner_of s (log ++ more)) e ≡ Some (Migration migration) =
    sym (owner_of-last s (log ++ more) e) ∙ ap (owner_of s) (sym whole) ∙ owned in
    rest (legal_front disks (log ++ more) (e ∷ []) all)
    (none-step disks (log ++ more) s e.who migration e.act
    (legal_last disks (log ++ more) e all) outs.1 after) outs.0

pub migrations_get_none : MigrationsGetNone
migrations_get_none disks log more s migration legal owned out =
    by_last (GetsNone disks log s migration) (λ _ h _. ap (owner_of s) (sym (append-nil log)) ∙ h)
    (λ more e rest. none-more disks log s migration more e rest) more legal owned out

-- ---- entries of others

left-out : (b q : Bool) (e : Entry) (more rest : List Entry) (n : Bool)
    → cond b (e ∷ rest) rest ≡ [] → (rest ≡ [] → n ≡ false) → ((b && q) || n) ≡ false
left-out true q e more rest n h next = absurd (cc)
left-out false q e more rest n h next = next h

of-others : (q : Act → Bool) (more : List Entry) → filter (is_by MIGRATION_CALLER) more ≡ []
    → list_any (under_caller q) more ≡ false
of-others q [] out = refl
of-others q (e ∷ more) out =
    left-out (is_by MIGRATION_CALLER e) (q e.act) e more (filter (is_by MIGRATION_CALLER) more)
    (list_any (under_caller q) more) out (of-others q more)

pub others_leave_migrations : OthersLeaveMigrations
others_leave_migrations disks log more s migration legal out = (
  λ h. migrations_get_none disks log more s migration legal h (of-others (takes s) more out),
  λ h. migrations_keep_theirs disks log more s migration legal h (of-others (removes s) more out),
)
