-- A line means one thing: the commands are told apart by their kinds.
use Rattle.std.proofs.Common.{◌≡◌, ℕ, Bool, true, false, nat_le, length, List, Option, Some, Result, Ok, Err, if◌then◌else◌, refl, sym, ap, ◌∙◌}
use Rattle.std.proofs.lemmas.Bool.{true≢false, le-leb}
use Rattle.std.proofs.lemmas.Option.{same_Some}
use Rattle.cmd_json.specs.Line.{command_of}
use Rattle.cmd_json.specs.declared.command.Command.{Command}
use Rattle.cmd_json.specs.declared.refusal.CmdRefused.{CmdRefused}
use Rattle.answers.specs.declared.refusal.Refusal.{Refusal}
use Rattle.answers.specs.declared.refusal.Refusal.TheVariants.{Long}
use Rattle.migrate_server.specs.Line.{AsksFor, Means, line_refusal, refused_by}
use Rattle.migrate_server.specs.declared.line.Line.{Line}
use Rattle.migrate_server.specs.declared.line.Line.TheVariants.{Blank, Asks, Refuses}
use Rattle.migrate_server.specs.declared.line.TheConstants.{LINE_LIMIT}

not_refused : (fits : Bool) (read : Result Command CmdRefused) (command : Command) (why : Refusal)
    → fits ≡ true → read ≡ Ok command
    → (if fits then refused_by read else Some Long) ≡ Some why → ⊥
not_refused true (Ok c) command why fits read is = cc
not_refused true (Err e) command why fits read is = cc
not_refused false read command why fits is told = cc

asks_or_not : (line : List ℕ) (command : Command) (why : Refusal) → AsksFor line command
    → line_refusal line ≡ Some why → ⊥
asks_or_not line command why asks told =
    not_refused (nat_le (length line) LINE_LIMIT) (command_of line) command why
    (le-leb (length line) LINE_LIMIT asks.fits) asks.reads told

ok_same : (c d : Command) → ◌≡◌ {A = Result Command CmdRefused} (Ok c) (Ok d) → c ≡ d
ok_same c d same = cc

pub means_one : (line : List ℕ) (what other : Line) → Means line what → Means line other
    → what ≡ other
means_one line Blank Blank h k = refl
means_one line Blank (Asks c) h k = absurd (true≢false (sym h ∙ k.some))
means_one line Blank (Refuses why) h k = absurd (true≢false (sym h ∙ k.0))
means_one line (Asks c) Blank h k = absurd (true≢false (sym k ∙ h.some))
means_one line (Asks c) (Asks d) h k = ap Asks (ok_same c d (sym h.reads ∙ k.reads))
means_one line (Asks c) (Refuses why) h k = absurd (asks_or_not line c why h k.1)
means_one line (Refuses why) Blank h k = absurd (true≢false (sym k ∙ h.0))
means_one line (Refuses why) (Asks c) h k = absurd (asks_or_not line c why k h.1)
means_one line (Refuses why) (Refuses other) h k =
    ap Refuses (same_Some why other (sym h.1 ∙ k.1))
