use Rattle.std.proofs.Common.{◌≢◌, ℕ, ◌<◌}
use Rattle.std.specs.Prelude.{slice_index_or}
use Rattle.record_codec.specs.declared.record.TheConstants.{KINDS}
use Rattle.record_codec.specs.declared.record.Kind.TheVariants.{PlanMade}
use Rattle.record_codec.specs.Record.{kind_byte}
use Rattle.record_codec.proofs.record.Kind.of.Given as goal

-- none of the kinds so far has the byte
abbrev pub invariant-loop-kind : goal.invariant-loop-kind
invariant-loop-kind l = (k : ℕ) → k < l.kind-index
    → kind_byte (slice_index_or KINDS k PlanMade) ≢ l.byte
