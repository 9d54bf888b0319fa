use Rattle.std.proofs.Common.{◌≡◌, Some, option_map, sym, ap, arith, ◌∙◌}
use Rattle.std.proofs.lemmas.Option.{slice_get-get_or}
use Rattle.std.specs.List.{filter, slice_get}
use Rattle.cmd_json.specs.Left.{object_of, has_other_name}
use Rattle.cmd_json.specs.Tree.{tree_data, value_data}
use Rattle.cmd_json.proofs.MemberLemmas.{get_member-object_of, found_at, without_unfound, without-object_of, filter-remove}
use Rattle.cmd_json.proofs.members.Members.take.Goals as goal

pub returns-in_err-place-clause-value : goal.returns-in_err-place-clause-value
returns-in_err-place-clause-value c =
    ap (option_map value_data) c.from_residual.ensures
    ∙ sym (get_member-object_of c.args.name.now c.args.self.now.list.items
    ∙ ap (option_map tree_data) c.in_err-place.ensures.none)

pub returns-in_err-place-clause-left : goal.returns-in_err-place-clause-left
returns-in_err-place-clause-left c =
    let es = c.args.self.now.list.items in
    sym (without_unfound c.args.name.now (object_of es)
    (get_member-object_of c.args.name.now es
    ∙ ap (option_map tree_data) c.in_err-place.ensures.none))

pub returns-clause-value : goal.returns-clause-value
returns-clause-value c =
    let es = c.args.self.now.list.items in
    let e = c.remove-value.result in
    let place = c.in_ok-place.place in
    let here : slice_get es place ≡ Some e =
    slice_get-get_or es place e (omega (arith, c.in_ok-place.ensures.within))
    ∙ ap Some (sym c.remove-value.ensures.value) in
    (found_at c.args.name.now es place e here c.in_ok-place.ensures.some).1

pub returns-clause-left : goal.returns-clause-left
returns-clause-left c =
    let es = c.args.self.now.list.items in
    let e = c.remove-value.result in
    let name = c.args.name.now in
    let place = c.in_ok-place.place in
    let here : slice_get es place ≡ Some e =
    slice_get-get_or es place e (omega (arith, c.in_ok-place.ensures.within))
    ∙ ap Some (sym c.remove-value.ensures.value) in
    let named = (found_at name es place e here c.in_ok-place.ensures.some).0 in
    ap object_of
    (c.keep_others.ensures
    ∙ ap (filter (has_other_name name)) c.remove-value.ensures.items
    ∙ filter-remove name es place e here named)
    ∙ sym (without-object_of name es)
