use Rattle.std.proofs.Common.{◌≡◌, ℕ, ◌+◌, ◌-◌, ◌<◌, ◌≤◌, true, false, cond, not, List, length, drop, get_or, Option, Some, None, Result, Ok, Err, refl, ap, subst, sym, ◌∙◌, arith}
use Rattle.std.specs.BTreeMap.{get, is_at}
use Rattle.std.specs.Map.{lookup}
use Rattle.std.specs.Ordering.{nat_cmp}
use Rattle.basics.specs.Refusal.{IsRefusedOr}
use Rattle.basics.proofs.ItemAt.{take-drop_rest}
use Rattle.ctl_state.specs.MayStand.{has_double}
use Rattle.ctl_state.specs.Value.{is_listed}
use Rattle.ctl_state.specs.Work.{Work}
use Rattle.ctl_state.proofs.WorkFacts.{join_next, new_differs, old_doubles, listed_twice, none_at, undone, beside}
use Rattle.ctl_state.proofs.work.put_to_work.Goals as goal

pub loop-left-preserved : goal.loop-left-preserved
loop-left-preserved c =
    let vms = c.args.vms.now in
    let left = c.loop-left.left in
    let j = left - 1 in
    let x = get_or vms j 0 in
    let work = c.loop-left.work in
    let inv = c.loop-left.invariant in
    let within : j < length vms = let w = inv.within in omega (arith, w) in
    let back : left ≡ j + 1 = omega arith in
    let joined = λ (v : ℕ).
    let P : ℕ → Type 0 = λ n. get nat_cmp work v
    ≡ cond (is_listed (drop n vms) v) (Some None) (get nat_cmp c.args.work.now v) in
    subst P back (inv.joined v) in
    let D : ℕ → Type 0 = λ n. has_double (drop n vms) ≡ false in
    record {
      within = let w = inv.within in omega (arith, w);
      joined = λ v. join_next vms j v (get nat_cmp c.args.work.now v) (get nat_cmp work v)
          (get nat_cmp c.insert.new.self v) within (c.in-Ok-None.ensures.updates.0 v) (joined v);
      differ = new_differs vms j (get nat_cmp c.args.work.now x) (get nat_cmp work x) within
          (sym c.in-Ok-None.ensures.old ∙ c.in-Ok-None.field-0-is) (joined x)
          (subst D back inv.differ);
    }

pub returns-in-Ok-Some-clause-refused : goal.returns-in-Ok-Some-clause-refused
returns-in-Ok-Some-clause-refused c =
    let vms = c.args.vms.now in
    let left = c.loop-left.left in
    let j = left - 1 in
    let x = get_or vms j 0 in
    let work = c.loop-left.work in
    let inv = c.loop-left.invariant in
    let within : j < length vms = let w = inv.within in omega (arith, w) in
    let back : left ≡ j + 1 = omega arith in
    let P : ℕ → Type 0 = λ n. get nat_cmp work x
    ≡ cond (is_listed (drop n vms) x) (Some None) (get nat_cmp c.args.work.now x) in
    let doubled = listed_twice vms j within
    (old_doubles vms j (get nat_cmp c.args.work.now x) (get nat_cmp work x)
    c.in-Ok-Some.field-0-0 within (sym c.in-Ok-Some.ensures.old ∙ c.in-Ok-Some.field-0-is)
    (none_at c.args.work.now vms j c.requires within) (subst P back (inv.joined x))) in
    rw doubled refl

pub returns-in-Ok-Some-clause-kept : goal.returns-in-Ok-Some-clause-kept
returns-in-Ok-Some-clause-kept c = λ v.
    let vms = c.args.vms.now in
    let left = c.loop-left.left in
    let j = left - 1 in
    let x = get_or vms j 0 in
    let work = c.loop-left.work in
    let inv = c.loop-left.invariant in
    let within : j < length vms = let w = inv.within in omega (arith, w) in
    let back : left ≡ j + 1 = omega arith in
    let P : ℕ → Type 0 = λ n. get nat_cmp work x
    ≡ cond (is_listed (drop n vms) x) (Some None) (get nat_cmp c.args.work.now x) in
    let L : ℕ → Type 0 = λ n. is_listed (drop n vms) x ≡ true in
    let inside = subst L (sym back)
    (old_doubles vms j (get nat_cmp c.args.work.now x) (get nat_cmp work x)
    c.in-Ok-Some.field-0-0 within (sym c.in-Ok-Some.ensures.old ∙ c.in-Ok-Some.field-0-is)
    (none_at c.args.work.now vms j c.requires within) (subst P back (inv.joined x))) in
    undone c.args.work.now c.insert.new.self vms left v
    (get nat_cmp c.take_from_work.new.work v) c.requires (c.take_from_work.ensures v
    ∙ ap (λ (ms : List ℕ). cond (is_listed ms v) None (get nat_cmp c.insert.new.self v))
    (take-drop_rest vms left))
    (λ out. beside vms left x v (get nat_cmp c.args.work.now v) (get nat_cmp work v)
    (get nat_cmp c.insert.new.self v) (c.in-Ok-Some.ensures.updates.0 v) (inv.joined v)
    inside out)

pub returns-in-Err-clause-kept : goal.returns-in-Err-clause-kept
returns-in-Err-clause-kept c = λ v.
    let vms = c.args.vms.now in
    let left = c.loop-left.left in
    let inv = c.loop-left.invariant in
    undone c.args.work.now c.insert.new.self vms left v
    (get nat_cmp c.take_from_work-in-Err.new.work v) c.requires
    (c.take_from_work-in-Err.ensures v
    ∙ ap (λ (ms : List ℕ). cond (is_listed ms v) None (get nat_cmp c.insert.new.self v))
    (take-drop_rest vms left))
    (λ out. ap (λ es. lookup (is_at (nat_cmp v)) es) c.in-Err.ensures.err ∙ inv.joined v
    ∙ ap (λ b. cond b (Some None) (get nat_cmp c.args.work.now v)) out)
