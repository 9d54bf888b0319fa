use Rattle.std.proofs.Common.{option_map, ap, ◌∙◌}
use Rattle.json.specs.Value.{value_view}
use Rattle.cmd_json.specs.Tree.{tree_data}
use Rattle.cmd_json.proofs.TreeLemmas.{at-tree_data, data_of_ref}
use Rattle.cmd_json.proofs.lists.item_at.Goals as goal

pub returns : goal.returns
returns c =
    data_of_ref c.at.result
    ∙ ap (option_map tree_data) c.at.ensures
    ∙ at-tree_data c.args.place (value_view c.args.value.now)
