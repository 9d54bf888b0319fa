use Rattle.std.proofs.Common.{◌≡◌, ℕ, List, length, subst, arith}
use Rattle.std.specs.Prelude.{Ok, Err}
use Rattle.std.proofs.lemmas.Grind.{common_steps}
use Rattle.journal.specs.Cells.{IsFound}
use Rattle.journal.specs.Unrepaired.{IsFoundIn}
use Rattle.journal.proofs.Loading.{unread, unread_unwritten, unfound, just_unwritten, found_in}
use Rattle.journal.proofs.unrepaired.load.Goals as goal

pub returns-in_err-bytes : goal.returns-in_err-bytes
returns-in_err-bytes g c =
    let old = g.D.Disk.state c.args.disk.now in
    let new = g.D.Disk.state c.read_disk.new.disk in
    let is : c.from_residual.result ≡ Err c.in_err-bytes.field-0.0 =
    grind (arith, common_steps, c.from_residual.ensures) in
    rw is (
      unread c.in_err-bytes.field-0.0 old new c.in_err-bytes.ensures.read,
      unread_unwritten c.in_err-bytes.field-0.0 old new c.in_err-bytes.ensures.read,
    )

pub returns-in_err-found : goal.returns-in_err-found
returns-in_err-found g c =
    let old = g.D.Disk.state c.args.disk.now in
    let new = g.D.Disk.state c.read_disk.new.disk in
    let is : c.from_residual-in_err-found.result ≡ Err c.in_err-found.field-0.0 =
    grind (arith, common_steps, c.from_residual-in_err-found.ensures) in
    let found : IsFound c.in_ok-bytes.bytes.items (Err c.in_err-found.field-0.0) =
    subst (λ (xs : List ℕ). IsFound xs (Err c.in_err-found.field-0.0)) c.deref.ensures.value
    c.in_err-found.ensures in
    let read = c.in_ok-bytes.ensures.read in
    rw is (
      unfound c.in_err-found.field-0.0 old new c.in_ok-bytes.bytes.items read.0 read.2 found,
      just_unwritten old new read.0,
    )

pub returns : goal.returns
returns g c =
    let old = g.D.Disk.state c.args.disk.now in
    let new = g.D.Disk.state c.read_disk.new.disk in
    let found : IsFound c.in_ok-bytes.bytes.items (Ok c.in_ok-found.found) =
    rw c.deref.ensures.value at c.in_ok-found.ensures in
    let read = c.in_ok-bytes.ensures.read in
    let len : length c.in_ok-bytes.bytes.items ≡ c.len.result = grind (arith, common_steps) in
    subst (λ (n : ℕ). IsFoundIn n c.in_ok-found.found old new) len
    (found_in old new c.in_ok-bytes.bytes.items c.in_ok-found.found read.1 read.0 read.2 found)
