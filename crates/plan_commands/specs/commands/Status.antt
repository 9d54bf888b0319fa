-- The command `status`: the line of each migration, in order of number.
use Rattle.std.specs.Prelude.{map}
use Rattle.fleet.specs.Fleet.{FleetState}
use Rattle.reply_json.specs.declared.reply.CheckLine.{CheckLine}
use Rattle.reply_json.specs.declared.reply.MigLine.{MigLine}
use Rattle.reply_json.specs.declared.reply.Reply.{Reply}
use Rattle.reply_json.specs.declared.reply.Reply.TheVariants as reply
use Rattle.ctl_state.specs.StatusLine.{CheckpointLine, StatusLine, status_line}
use Rattle.ctl_state.specs.Value.{CtlValue}
use Rattle.ctl_state.specs.declared.migration.Migration.{Migration}
use Rattle.plan_commands.specs.Machines.{name_of, log_of}

abbrev pub check_line : CheckpointLine → CheckLine
check_line line = record { previous = line.previous; current = line.current }

-- the same, member for member, as the reply prints it
abbrev pub printed : StatusLine → MigLine
printed line = record {
  cause = line.cause;
  checkpoints = map check_line line.checkpoints;
  dv = line.dv;
  marks = line.marks;
  mig = line.mig;
  phase = line.phase;
  place = line.place;
  plan = line.plan;
  state = line.state;
  vm = line.vm;
  writes = line.writes;
  written = line.written;
}

-- by the name and the log of the migration's machine
abbrev pub migration_line : FleetState → CtlValue → Migration → MigLine
migration_line fleet v m = printed (status_line v (name_of m.vm fleet) (log_of m.vm fleet) m)

abbrev pub status_reply : FleetState → CtlValue → Reply
status_reply fleet v = reply.Status (map (migration_line fleet v) v.migrations)
