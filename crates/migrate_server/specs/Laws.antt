-- The program is a function of its input: the same lines have the same replies, whatever the store
-- does, as long as none of its calls fails. A store has a say in no other answers than those to
-- moves. All of this from the same records of the journal.
use Rattle.std.specs.Prelude.{◌≡◌, ◌≢◌, ◌⊎◌, ℕ, List, [], ◌∷◌, ◌++◌, All, Option, Some, is_some, Err}
use Rattle.cmd_json.specs.declared.command.Command.TheVariants.{Move}
use Rattle.cmd_json.specs.declared.command.MoveWrite.{MoveWrite}
use Rattle.answers.specs.Answer.{Answer}
use Rattle.answers.specs.declared.refusal.Refusal.TheVariants.{NameTaken, Volume}
use Rattle.target_volume.specs.VolumeName.{find_volume}
use Rattle.target_volume.specs.VolumeStore.{StoredVolume}
use Rattle.target_volume.specs.declared.volume_name.VolumeName.{VolumeName}
use Rattle.migrate_server.specs.Line.{AsksFor}
use Rattle.migrate_server.specs.Serves.{Serves}
use Rattle.migrate_server.specs.Session.{State, state_of, Session}
use Rattle.migrate_server.specs.World.{Desk}
use Rattle.migrate_server.specs.declared.status.Status.TheVariants.{Ok}

-- ---- stores that tell their volumes

-- the same fleet, and the same records
pub record AreAlikeInside (one other : State) : Type 0 where
  pub fleet : other.fleet ≡ one.fleet
  pub records : other.records ≡ one.records

-- both stores tell their volumes, and these have the same names
abbrev pub HaveSameNames : (one other : Option (List (VolumeName × StoredVolume))) → Type 0
HaveSameNames (Some one) (Some other) = (name : VolumeName)
    → is_some (find_volume name other) ≡ is_some (find_volume name one)
HaveSameNames _ _ = ⊥

-- the same fleet and records, and volumes of the same names; what these hold is left out
pub record Agree (one other : State) : Type 0 where
  pub inside : AreAlikeInside one other
  pub names : HaveSameNames one.store.volumes other.store.volumes

-- the store fails in none
abbrev pub NoneFails : List Answer → Type 0
NoneFails answers = All (λ answer. answer ≢ Err Volume) answers

-- from states that agree, the same lines have the same answers, and leave states that agree
abbrev pub SameLinesSameReplies : Type 0
SameLinesSameReplies = (one other one_after other_after : State) (lines : List (List ℕ))
    (answers others : List Answer) → Agree one other
    → Session one lines answers one_after → Session other lines others other_after
    → NoneFails answers → NoneFails others
    → (others ≡ answers) × Agree one_after other_after

-- two runs of the same input that ended well, from states that agree, have written the same bytes,
-- and leave states that agree. The input is what was taken of a source and what it had to give
-- behind that, however it came in pieces
abbrev pub SameInputSameOutput : Type 0
SameInputSameOutput = (one one_after other other_after : Desk)
    (first : Serves one one_after Ok) (second : Serves other other_after Ok)
    → second.taken ++ second.rest ≡ first.taken ++ first.rest
    → Agree (state_of one.server) (state_of other.server)
    → NoneFails first.replies → NoneFails second.replies
    → (second.written ≡ first.written)
    × Agree (state_of one_after.server) (state_of other_after.server)

-- ---- any stores

abbrev pub AsksForMove : (line : List ℕ) → Type 0
AsksForMove line = (name : List ℕ) × (sectors : ℕ) × (writes : List MoveWrite)
    × AsksFor line (Move name sectors writes)

-- a store gives this answer: the name is taken, or a call of it failed
abbrev pub IsByStore : Answer → Type 0
IsByStore answer = (answer ≡ Err NameTaken) ⊎ (answer ≡ Err Volume)

-- the same answer, but where a store gave one of them to a move
abbrev pub AreAlike : (line : List ℕ) (answer other : Answer) → Type 0
AreAlike line answer other = (other ≡ answer)
    ⊎ (AsksForMove line × (IsByStore answer ⊎ IsByStore other))

-- each of these lines has two answers that are alike
abbrev pub AllAlike : List (List ℕ) → (answers others : List Answer) → Type 0
AllAlike [] [] [] = Unit {0}
AllAlike (line ∷ lines) (answer ∷ answers) (other ∷ others) =
    AreAlike line answer other × AllAlike lines answers others
AllAlike _ _ _ = ⊥

-- from the same fleet and records, the same lines have the same answers but for those that a store
-- gives to moves, and leave the same fleet and records
abbrev pub StoresAnswerMovesAlone : Type 0
StoresAnswerMovesAlone = (one other one_after other_after : State) (lines : List (List ℕ))
    (answers others : List Answer) → AreAlikeInside one other
    → Session one lines answers one_after → Session other lines others other_after
    → AllAlike lines answers others × AreAlikeInside one_after other_after
