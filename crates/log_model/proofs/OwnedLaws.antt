-- A live snapshot was taken under the number of its owner.
use Rattle.std.proofs.Common.{◌≡◌, ℕ, ◌+◌, ◌≤◌, List, [], ◌∷◌, ◌++◌, Bool, true, false, cond, eqb, Option, Some, None, MatchOption, refl, sym, ◌∙◌, arith}
use Rattle.std.proofs.lemmas.Bool.{eqb-true}
use Rattle.std.proofs.lemmas.Option.{none-some}
use Rattle.std.proofs.lemmas.List.Sums.{fold-append, sum_by-append}
use Rattle.log_model.specs.declared.entry.Owner.{Owner}
use Rattle.log_model.specs.declared.entry.Act.{Act}
use Rattle.log_model.specs.declared.entry.Act.TheVariants.{Write, Snap, Remove, Reset, Enable, Off, On}
use Rattle.log_model.specs.declared.entry.Entry.{Entry}
use Rattle.log_model.specs.Entry.{is_snap}
use Rattle.log_model.specs.Legal.{Disks, Legal, ActMayStand, taken, owner_of, owner_after}
use Rattle.log_model.specs.Link.{IsLeastOwned}
use Rattle.change_id.proofs.Ends.{by_last}
use Rattle.log_model.proofs.LegalLogs.{legal_last, legal_front}

pub taken-append : (xs ys : List Entry) → taken (xs ++ ys) ≡ taken xs + taken ys
taken-append xs ys = sum_by-append (λ e. cond (is_snap e.act) 1 0) xs ys

pub owner_of-last : (s : ℕ) (log : List Entry) (e : Entry)
    → owner_of s (log ++ e ∷ []) ≡ owner_after s (owner_of s log) e
owner_of-last s log e = fold-append (owner_after s) None log (e ∷ [])

abbrev AreTaken : List Entry → Type 0
AreTaken log = (s : ℕ) (owner : Owner) → owner_of s log ≡ Some owner → s ≤ taken log

taken_at : (n s id : ℕ) (by owner : Owner) (was : Option Owner) (b : Bool) → eqb id s ≡ b
    → id ≡ n + 1 → (was ≡ Some owner → s ≤ n) → cond b (Some by) was ≡ Some owner → s ≤ n + 1
taken_at n s id by owner was true same next old h = let e = eqb-true id s same in omega arith
taken_at n s id by owner was false same next old h = omega (arith, old h)

removed_at : (n s : ℕ) (owner : Owner) (was : Option Owner) (b : Bool) → (was ≡ Some owner → s ≤ n)
    → cond b None was ≡ Some owner → s ≤ n
removed_at n s owner was true old h = absurd (none-some owner h)
removed_at n s owner was false old h = old h

taken_step : (disks : Disks) (log : List Entry) (who : ℕ) (act : Act) → AreTaken log
    → ActMayStand disks log who act
    → (s : ℕ) (owner : Owner)
    → owner_after s (owner_of s log) (record { who = who; act = act }) ≡ Some owner
    → s ≤ taken log + taken (record { who = who; act = act } ∷ [])
taken_step disks log who (Snap id by) old stands s owner h =
    taken_at (taken log) s id by owner (owner_of s log) (eqb id s) refl stands.0 (old s owner) h
taken_step disks log who (Remove id) old stands s owner h =
    omega (arith, removed_at (taken log) s owner (owner_of s log) (eqb id s) (old s owner) h)
taken_step disks log who (Write disk first sectors) old stands s owner h =
    omega (arith, old s owner h)
taken_step disks log who (Reset disk) old stands s owner h = omega (arith, old s owner h)
taken_step disks log who Enable old stands s owner h = omega (arith, old s owner h)
taken_step disks log who Off old stands s owner h = omega (arith, old s owner h)
taken_step disks log who On old stands s owner h = omega (arith, old s owner h)

pub owned_taken : (disks : Disks) (log : List Entry) → Legal disks log → AreTaken log
owned_taken disks =
    by_last (λ log. Legal disks log → AreTaken log) (λ _ s owner h. absurd (none-some owner h))
    (λ log e rest legal s owner h. omega (
      arith,
      taken-append log (e ∷ []),
      taken_step disks log e.who e.act (rest (legal_front disks log (e ∷ []) legal))
          (legal_last disks log e legal) s owner (sym (owner_of-last s log e) ∙ h),
    ))

-- the least among those taken is the least of all
pub least_of_all : (disks : Disks) (log : List Entry) (owner : Owner) (from : ℕ) (result : Option ℕ)
    → Legal disks log
    → MatchOption result ((s : ℕ) → from ≤ s → s ≤ taken log → owner_of s log ≡ Some owner
    → ⊥) (λ s. IsLeastOwned owner from log (Some s)) → IsLeastOwned owner from log result
least_of_all disks log owner from (Some s) legal h = h
least_of_all disks log owner from None legal h =
    λ s later owns. h s later (owned_taken disks log legal s owner owns) owns
