-- Two runs of the same input serve the same lines, and so write the same bytes.
use Rattle.std.proofs.Common.{◌≡◌, ◌⊎◌, ℕ, ◌+◌, ◌-◌, ◌<◌, ◌≤◌, Bool, true, false, nat_le, List, [], ◌∷◌, ◌++◌, length, take, get_or, Option, inl, inr, refl, sym, ap, subst, append_assoc, ◌∙◌, arith}
use Rattle.std.specs.List.{flat_map}
use Rattle.std.specs.Io.KnownBytes.{IsAtEnd}
use Rattle.std.proofs.lemmas.Bool.{leb-true, leb-false}
use Rattle.std.proofs.lemmas.List.{append-nil, length-append, length-take-le, take_at, get_or-take, get_or_append_left}
use Rattle.std.proofs.Math.Seq.{get_or-append_seam}
use Rattle.answers.specs.Answer.{answer_line}
use Rattle.migrate_server.specs.Laws.{Agree, SameInputSameOutput}
use Rattle.migrate_server.specs.Line.{AsksToQuit, lines_of, requests_among}
use Rattle.migrate_server.specs.Serves.{Serves, QuitsLast, EndsByQuit}
use Rattle.migrate_server.specs.Session.{State, state_of, Session}
use Rattle.migrate_server.specs.World.{Desk}
use Rattle.migrate_server.specs.declared.status.Status.TheVariants.{Ok}
use Rattle.migrate_server.proofs.Agreeing.{same_lines_same_replies}

-- ---- the same lines

-- all were served, or the last of them asks to quit
abbrev Ends : (lines more : List (List ℕ)) → Type 0
Ends lines more = (more ≡ []) ⊎ EndsByQuit lines

-- what stands behind these lines is the one that is there in the whole list
there : (before more others others_more : List (List ℕ)) (line : List ℕ)
    → (before ++ line ∷ []) ++ more ≡ others ++ others_more → length before < length others
    → get_or others (length before) line ≡ line
there before more others others_more line same within =
    sym (get_or_append_left others others_more line (length before) within)
    ∙ ap (λ (l : List (List ℕ)). get_or l (length before) line)
    (sym same ∙ append_assoc before (line ∷ []) more)
    ∙ get_or-append_seam before line more line

-- a line that asks to quit has none of them behind it
ends_there : (before more others others_more : List (List ℕ)) (line : List ℕ)
    → (before ++ line ∷ []) ++ more ≡ others ++ others_more → AsksToQuit line
    → QuitsLast others → length before + 1 < length others → ⊥
ends_there before more others others_more line same asks last further =
    let place = length before in
    let front = length others - 1 in
    let long : length (take front others) ≡ front =
    length-take-le front others (omega arith) in
    let at : get_or (take front others) place line ≡ line =
    get_or-take front others place line (omega (arith, further))
    ∙ there before more others others_more line same (omega (arith, further)) in
    last place line (omega (arith, long, further)) (subst AsksToQuit (sym at) asks)

no_further : (lines more others others_more : List (List ℕ))
    → lines ++ more ≡ others ++ others_more → Ends lines more → QuitsLast others
    → length others ≤ length lines
no_further lines more others others_more same (inl none) last =
    omega (
      arith,
      ap length same,
      length-append lines more,
      length-append others others_more,
      ap length none,
    )
no_further lines more others others_more same (inr quit) last =
    by (nat_le (length others) (length lines)) refl
  where
    by : (b : Bool) → nat_le (length others) (length lines) ≡ b → length others ≤ length lines
    by true is = leb-true (length others) (length lines) is
    by false is =
        let before = quit.0 in
        let line = quit.1 in
        let long : length lines ≡ length before + 1 =
        omega (arith, ap length quit.2, length-append before (line ∷ [])) in
        let further : length lines < length others =
        leb-false (length others) (length lines) is in
        absurd (ends_there before more others others_more line
        (ap (λ (l : List (List ℕ)). l ++ more) (sym quit.2) ∙ same) quit.3 last
        (omega (arith, long, further)))

same_lines : (lines more others others_more : List (List ℕ))
    → lines ++ more ≡ others ++ others_more → Ends lines more → Ends others others_more
    → QuitsLast lines → QuitsLast others → others ≡ lines
same_lines lines more others others_more same ends other_ends last other_last =
    let fewer = no_further lines more others others_more same ends other_last in
    let more_of = no_further others others_more lines more (sym same) other_ends last in
    let long : length others ≡ length lines = omega (arith, fewer, more_of) in
    sym (take_at others others_more (length lines) long)
    ∙ ap (take (length lines)) (sym same) ∙ take_at lines more (length lines) refl

-- ---- the same output

ends : (left : Option (List ℕ)) (lines more : List (List ℕ))
    → ((more ≡ []) × IsAtEnd left) ⊎ EndsByQuit lines → Ends lines more
ends left lines more (inl whole) = inl whole.0
ends left lines more (inr quit) = inr quit

all_written : (old new : Desk) (run : Serves old new Ok)
    → run.written ≡ flat_map answer_line run.replies
all_written old new run = sym (append-nil run.written)
    ∙ ap (λ (l : List ℕ). run.written ++ l) (sym run.leaves) ∙ run.all_bytes

pub same_input_same_output : SameInputSameOutput
same_input_same_output one one_after other other_after first second same agree none nones =
    let lines : second.lines ≡ first.lines =
    same_lines first.lines first.more second.lines second.more
    (sym first.all_lines ∙ ap lines_of (sym same) ∙ second.all_lines)
    (ends one_after.source.left first.lines first.more first.comes_to)
    (ends other_after.source.left second.lines second.more second.comes_to)
    first.quits second.quits in
    let session = subst (λ (l : List (List ℕ)). Session (state_of other.server)
    (requests_among l) second.replies second.mid) lines second.session in
    let alike = same_lines_same_replies (state_of one.server) (state_of other.server) first.mid
    second.mid (requests_among first.lines) first.replies second.replies agree first.session
    session none nones in (
      all_written other other_after second ∙ ap (flat_map answer_line) alike.0
          ∙ sym (all_written one one_after first),
      subst (λ (s : State). Agree s (state_of other_after.server)) (sym (first.cut).0)
          (subst (λ (s : State). Agree first.mid s) (sym (second.cut).0) alike.1),
    )
