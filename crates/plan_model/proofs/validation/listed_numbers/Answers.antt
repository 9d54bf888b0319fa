use Rattle.std.proofs.Common.{◌≡◌, Some, None, arith}
use Rattle.std.specs.List.{find}
use Rattle.std.specs.BTreeMap.{get}
use Rattle.std.specs.Cmp.Lexicographic.{slice_cmp}
use Rattle.std.specs.Ordering.{nat_cmp}
use Rattle.std.proofs.lemmas.Grind.{common_steps}
use Rattle.plan_model.proofs.ListFacts.{find_doubled, find_in_book, refused_unknown, refused_planned, refused_untracked, accepted_list}
use Rattle.plan_model.specs.Book.{is_unknown, is_in_plan, is_untracked}
use Rattle.plan_model.specs.Plans.{is_doubled_in, first_that}
use Rattle.plan_model.proofs.validation.listed_numbers.Goals as goal

pub returns-in-Some-clause-refused : goal.returns-in-Some-clause-refused
returns-in-Some-clause-refused c =
    let doubles = get (slice_cmp nat_cmp) c.in_ok-doubles.doubles in
    let doubled = find_doubled doubles c.args.vms.now c.in_ok-doubles.ensures in
    let here = c.in-Some.ensures in
    let copy = c.in_ok-clone.ensures.cases in
    grind (arith, common_steps, doubled, here, copy)

pub returns-in-Some-first_unknown-clause-refused : goal.returns-in-Some-first_unknown-clause-refused
returns-in-Some-first_unknown-clause-refused c =
    let vms = c.args.vms.now in
    let known = c.args.known.now in
    let book = get (slice_cmp nat_cmp) c.in_ok-book.book in
    let doubles = get (slice_cmp nat_cmp) c.in_ok-doubles.doubles in
    let doubled = find_doubled doubles vms c.in_ok-doubles.ensures in
    let d : find (is_doubled_in vms) vms ≡ None =
    grind (
      arith,
      common_steps,
      doubled,
      c.first_doubled.ensures,
      c.in_default.ensures,
      c.in_default.is,
    ) in
    let unknown = find_in_book is_unknown book known vms c.in_ok-book.ensures in
    let u : first_that is_unknown known vms ≡ Some c.in-Some-first_unknown.vm.now =
    grind (
      arith,
      common_steps,
      unknown,
      c.first_unknown.ensures,
      c.in-Some-first_unknown.ensures,
    ) in
    refused_unknown vms known c.in-Some-first_unknown.vm.now c.in_ok-clone-2.field-0 d u
    c.in_ok-clone-2.ensures.cases

pub returns-in-Some-first_in_plan-clause-refused : goal.returns-in-Some-first_in_plan-clause-refused
returns-in-Some-first_in_plan-clause-refused c =
    let vms = c.args.vms.now in
    let known = c.args.known.now in
    let book = get (slice_cmp nat_cmp) c.in_ok-book.book in
    let doubles = get (slice_cmp nat_cmp) c.in_ok-doubles.doubles in
    let doubled = find_doubled doubles vms c.in_ok-doubles.ensures in
    let d : find (is_doubled_in vms) vms ≡ None =
    grind (
      arith,
      common_steps,
      doubled,
      c.first_doubled.ensures,
      c.in_default.ensures,
      c.in_default.is,
    ) in
    let unknown = find_in_book is_unknown book known vms c.in_ok-book.ensures in
    let u : first_that is_unknown known vms ≡ None =
    grind (
      arith,
      common_steps,
      unknown,
      c.first_unknown.ensures,
      c.in_default-first_unknown.ensures,
      c.in_default-first_unknown.is,
    ) in
    let planned = find_in_book is_in_plan book known vms c.in_ok-book.ensures in
    let p : first_that is_in_plan known vms ≡ Some c.in-Some-first_in_plan.vm.now =
    grind (
      arith,
      common_steps,
      planned,
      c.first_in_plan.ensures,
      c.in-Some-first_in_plan.ensures,
    ) in
    refused_planned vms known c.in-Some-first_in_plan.vm.now c.in_ok-clone-3.field-0 d u p
    c.in_ok-clone-3.ensures.cases

pub returns-in-Some-first_untracked-clause-refused :
    goal.returns-in-Some-first_untracked-clause-refused
returns-in-Some-first_untracked-clause-refused c =
    let vms = c.args.vms.now in
    let known = c.args.known.now in
    let book = get (slice_cmp nat_cmp) c.in_ok-book.book in
    let doubles = get (slice_cmp nat_cmp) c.in_ok-doubles.doubles in
    let doubled = find_doubled doubles vms c.in_ok-doubles.ensures in
    let d : find (is_doubled_in vms) vms ≡ None =
    grind (
      arith,
      common_steps,
      doubled,
      c.first_doubled.ensures,
      c.in_default.ensures,
      c.in_default.is,
    ) in
    let unknown = find_in_book is_unknown book known vms c.in_ok-book.ensures in
    let u : first_that is_unknown known vms ≡ None =
    grind (
      arith,
      common_steps,
      unknown,
      c.first_unknown.ensures,
      c.in_default-first_unknown.ensures,
      c.in_default-first_unknown.is,
    ) in
    let planned = find_in_book is_in_plan book known vms c.in_ok-book.ensures in
    let p : first_that is_in_plan known vms ≡ None =
    grind (
      arith,
      common_steps,
      planned,
      c.first_in_plan.ensures,
      c.in_default-first_in_plan.ensures,
      c.in_default-first_in_plan.is,
    ) in
    let untracked = find_in_book is_untracked book known vms c.in_ok-book.ensures in
    let t : first_that is_untracked known vms ≡ Some c.in-Some-first_untracked.vm.now =
    grind (
      arith,
      common_steps,
      untracked,
      c.first_untracked.ensures,
      c.in-Some-first_untracked.ensures,
    ) in
    refused_untracked vms known c.in-Some-first_untracked.vm.now c.in_ok-clone-4.field-0 d u p t
    c.in_ok-clone-4.ensures.cases

pub returns-clause-refused : goal.returns-clause-refused
returns-clause-refused c =
    let vms = c.args.vms.now in
    let known = c.args.known.now in
    let book = get (slice_cmp nat_cmp) c.in_ok-book.book in
    let doubles = get (slice_cmp nat_cmp) c.in_ok-doubles.doubles in
    let doubled = find_doubled doubles vms c.in_ok-doubles.ensures in
    let d : find (is_doubled_in vms) vms ≡ None =
    grind (
      arith,
      common_steps,
      doubled,
      c.first_doubled.ensures,
      c.in_default.ensures,
      c.in_default.is,
    ) in
    let unknown = find_in_book is_unknown book known vms c.in_ok-book.ensures in
    let u : first_that is_unknown known vms ≡ None =
    grind (
      arith,
      common_steps,
      unknown,
      c.first_unknown.ensures,
      c.in_default-first_unknown.ensures,
      c.in_default-first_unknown.is,
    ) in
    let planned = find_in_book is_in_plan book known vms c.in_ok-book.ensures in
    let p : first_that is_in_plan known vms ≡ None =
    grind (
      arith,
      common_steps,
      planned,
      c.first_in_plan.ensures,
      c.in_default-first_in_plan.ensures,
      c.in_default-first_in_plan.is,
    ) in
    let untracked = find_in_book is_untracked book known vms c.in_ok-book.ensures in
    let t : first_that is_untracked known vms ≡ None =
    grind (
      arith,
      common_steps,
      untracked,
      c.first_untracked.ensures,
      c.in_default-first_untracked.ensures,
      c.in_default-first_untracked.is,
    ) in
    accepted_list vms known c.in_ok-numbers_of.field-0 d u p t
