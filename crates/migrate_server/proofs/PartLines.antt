-- A line as far as it was read.
use Rattle.std.proofs.Common.{◌≡◌, ◌≢◌, ℕ, zero, suc, ◌+◌, ◌-◌, ◌<◌, ◌≤◌, Bool, true, false, cond, eqb, not, MatchBool, List, [], ◌∷◌, ◌++◌, length, take, drop, inl, inr, refl, sym, ap, subst, append_assoc, ◌∙◌, arith}
use Rattle.std.specs.Io.KnownBytes.{Consumes}
use Rattle.std.proofs.KnownBytes.{Consumes-nil, Consumes-trans}
use Rattle.std.proofs.lemmas.List.{nil_from_length, append-nil, drop-take, drop-drop, take-append-drop, take_all, drop_all, length-append}
use Rattle.std.proofs.lemmas.List.Elements.{All-append}
use Rattle.std.proofs.lemmas.Bool.{true≢false, eqb-true, eqb-false}
use Rattle.basics.specs.Faults.{HasRisen}
use Rattle.edge_traits.specs.Source.{SourceState}
use Rattle.migrate_server.specs.declared.line_buffer.LineBuffer.{LineBuffer}
use Rattle.migrate_server.specs.declared.reader.NoLine.{NoLine}
use Rattle.migrate_server.specs.declared.reader.NoLine.TheVariants.{Fault, Limit, NoMemory}
use Rattle.migrate_server.specs.declared.reader.TheConstants.{INPUT_LIMIT}
use Rattle.migrate_server.specs.LineBuffer.{Holds}
use Rattle.migrate_server.specs.Reader.{ReaderState, HasNoLf, Takes, IsIdle, ReadsMore, TakesLine, TakesEnd, FailsInLine, PassesLimit, StopsInLine, HasNoLine}

pub no_lf_append : (xs ys : List ℕ) → HasNoLf xs → HasNoLf ys → HasNoLf (xs ++ ys)
no_lf_append xs ys h k = All-append (λ b. b ≢ 10) xs ys h k

-- the line so far, while it is read
pub record Partly (source now_source : SourceState) (old now : ReaderState) (buffer : LineBuffer) :
    Type 0 where
  pub text : List ℕ
  pub held : Holds buffer text
  pub one : HasNoLf text
  pub given : List ℕ
  pub takes : Takes source.left now_source.left old now given
  pub split : old.pending ++ given ≡ text ++ now.pending
  pub idle : IsIdle now_source.left now
  pub still : old.ended ≡ true → now.ended ≡ true
  pub fits : now.total ≤ INPUT_LIMIT
  pub steady : now_source.faults ≡ source.faults

pub partly_start : (source : SourceState) (reader : ReaderState) (buffer : LineBuffer)
    → Holds buffer [] → IsIdle source.left reader → reader.total ≤ INPUT_LIMIT
    → Partly source source reader reader buffer
partly_start source reader buffer held idle fits = record {
  text = [];
  held = held;
  one = λ k d within. absurd (omega arith);
  given = [];
  takes = record { whole = Consumes-nil source.left; count = omega arith; none = λ e. refl };
  split = append-nil reader.pending;
  idle = idle;
  still = λ e. e;
  fits = fits;
  steady = refl;
}

pub pending_is : (xs : List ℕ) (start end : ℕ) → start ≤ end
    → take (end - start) (drop start xs) ≡ drop start (take end xs)
pending_is xs start end h = let e : start + (end - start) ≡ end = omega arith in
    sym (drop-take start (end - start) xs) ∙ ap (λ n. drop start (take n xs)) e

-- the reader after so many of its bytes were taken
abbrev pub after_taking : ReaderState → ℕ → ReaderState
after_taking r n = record { pending = drop n r.pending; total = r.total; ended = r.ended }

nothing_dropped : (n x : ℕ) (xs ys : List ℕ) → xs ≡ [] → drop n xs ≡ x ∷ ys → ⊥
nothing_dropped zero x xs ys e h = let h2 = sym e ∙ h in cc
nothing_dropped (suc n) x xs ys e h = let h2 = sym (ap (drop (suc n)) e) ∙ h in cc

-- up to an LF
pub taken_line : (source now_source : SourceState) (old now : ReaderState)
    (buffer filled : LineBuffer) (at : ℕ) → Partly source now_source old now buffer
    → HasNoLf (take at now.pending) → drop at now.pending ≡ 10 ∷ drop (at + 1) now.pending
    → ((text : List ℕ) → Holds buffer text → Holds filled (text ++ take at now.pending))
    → TakesLine source now_source old (after_taking now (at + 1)) filled
taken_line source now_source old now buffer filled at p one lf push = record {
  text = p.text ++ take at now.pending;
  held = push p.text p.held;
  one = no_lf_append p.text (take at now.pending) p.one one;
  given = p.given;
  takes = record { whole = p.takes.whole; count = p.takes.count; none = p.takes.none };
  split = inl (p.split ∙ ap (λ xs. p.text ++ xs) (sym (take-append-drop at now.pending))
      ∙ sym (append_assoc p.text (take at now.pending) (drop at now.pending))
      ∙ ap (λ xs. p.text ++ take at now.pending ++ xs) lf);
  idle = λ e. absurd (nothing_dropped at 10 now.pending (drop (at + 1) now.pending) (p.idle e).0
      lf);
  fits = p.fits;
  steady = p.steady;
}

-- all that was pending
pub taken_rest : (source now_source : SourceState) (old now : ReaderState)
    (buffer filled : LineBuffer) (n : ℕ) → n ≡ length now.pending
    → Partly source now_source old now buffer
    → HasNoLf now.pending
    → ((text : List ℕ) → Holds buffer text → Holds filled (text ++ take n now.pending))
    → Partly source now_source old (after_taking now n) filled
taken_rest source now_source old now buffer filled n all p one push =
    let whole : take n now.pending ≡ now.pending = take_all n now.pending (omega arith) in
    let none : drop n now.pending ≡ [] = drop_all n now.pending (omega arith) in
    record {
      text = p.text ++ now.pending;
      held = subst (λ (xs : List ℕ). Holds filled (p.text ++ xs)) whole (push p.text p.held);
      one = no_lf_append p.text now.pending p.one one;
      given = p.given;
      takes = record { whole = p.takes.whole; count = p.takes.count; none = p.takes.none };
      split = p.split ∙ sym (append-nil (p.text ++ now.pending))
          ∙ ap (λ xs. p.text ++ now.pending ++ xs) (sym none);
      idle = λ e. (none, (p.idle e).1);
      still = p.still;
      fits = p.fits;
      steady = p.steady;
    }

-- more bytes behind what was taken
takes_more : (source now_source next_source : SourceState) (old now next : ReaderState)
    (buffer : LineBuffer) (given : List ℕ) → (p : Partly source now_source old now buffer)
    → now.ended ≡ false
    → Takes now_source.left next_source.left now next given
    → Takes source.left next_source.left old next (p.given ++ given)
takes_more source now_source next_source old now next buffer given p running t = record {
  whole = Consumes-trans source.left now_source.left next_source.left p.given given p.takes.whole
      t.whole;
  count = let e = length-append p.given given in omega (arith, e, p.takes.count, t.count);
  none = λ e. absurd (true≢false (sym (p.still e) ∙ running));
}

-- what was read and isn't taken is the line so far and what came behind it
split_more : (source now_source : SourceState) (old now : ReaderState) (buffer : LineBuffer)
    (given : List ℕ) → (p : Partly source now_source old now buffer) → now.pending ≡ []
    → old.pending ++ (p.given ++ given) ≡ p.text ++ given
split_more source now_source old now buffer given p none =
    sym (append_assoc old.pending p.given given) ∙ ap (λ xs. xs ++ given) p.split
    ∙ append_assoc p.text now.pending given ∙ ap (λ xs. p.text ++ (xs ++ given)) none

pub filled_more : (source now_source next_source : SourceState) (old now next : ReaderState)
    (buffer : LineBuffer) → Partly source now_source old now buffer → now.pending ≡ []
    → now.ended ≡ false
    → ReadsMore now_source next_source now next → Partly source next_source old next buffer
filled_more source now_source next_source old now next buffer p none running f = record {
  text = p.text;
  held = p.held;
  one = p.one;
  given = p.given ++ f.given;
  takes = takes_more source now_source next_source old now next buffer f.given p running f.takes;
  split = split_more source now_source old now buffer f.given p none
      ∙ ap (λ xs. p.text ++ xs) (sym f.pending);
  idle = λ e. let h = f.at_end e in (f.pending ∙ h.0, h.1);
  still = λ e. absurd (true≢false (sym (p.still e) ∙ running));
  fits = f.fits;
  steady = f.steady ∙ p.steady;
}

-- the source ended: what was read is the last line, or there is none
pub ended_line : (source now_source : SourceState) (old now : ReaderState) (buffer : LineBuffer)
    (empty : Bool) → Partly source now_source old now buffer → now.pending ≡ [] → now.ended ≡ true
    → ((text : List ℕ) → Holds buffer text → empty ≡ eqb (length text) 0)
    → MatchBool (not empty) (TakesLine source now_source old now buffer)
    (TakesEnd source now_source old now)
ended_line source now_source old now buffer true p none ended is =
    let nothing : p.text ≡ [] =
    nil_from_length p.text (eqb-true (length p.text) 0 (sym (is p.text p.held))) in
    record {
      given = p.given;
      takes = p.takes;
      nothing = p.split ∙ ap (λ xs. xs ++ now.pending) nothing ∙ none;
      ended = ended;
      idle = p.idle;
      fits = p.fits;
      steady = p.steady;
    }
ended_line source now_source old now buffer false p none ended is =
    let some = eqb-false (length p.text) 0 (sym (is p.text p.held)) in
    record {
      text = p.text;
      held = p.held;
      one = p.one;
      given = p.given;
      takes = p.takes;
      split = inr (
        p.split ∙ ap (λ xs. p.text ++ xs) none
            ∙ append-nil p.text,
        omega (arith, some),
        ended,
      );
      idle = p.idle;
      fits = p.fits;
      steady = p.steady;
    }

still_running : (was now : Bool) → (was ≡ true → now ≡ true) → now ≡ false → was ≡ false
still_running false now still running = refl
still_running true now still running = absurd (true≢false (sym (still refl) ∙ running))

-- the line was cut where more was to be read
pub cut_short : (source now_source next_source : SourceState) (old now next : ReaderState)
    (buffer : LineBuffer) (why : NoLine) → Partly source now_source old now buffer
    → now.pending ≡ [] → now.ended ≡ false
    → HasNoLine why now_source next_source now next → HasNoLine why source next_source old next
cut_short source now_source next_source old now next buffer Fault p none running f = record {
  running = still_running old.ended now.ended p.still running;
  given = p.given ++ f.given;
  takes = takes_more source now_source next_source old now next buffer f.given p running f.takes;
  one = subst HasNoLf (sym (split_more source now_source old now buffer f.given p none))
      (no_lf_append p.text f.given p.one
      (subst (λ (xs : List ℕ). HasNoLf (xs ++ f.given)) none f.one));
  fits = f.fits;
  rises = subst (λ (n : ℕ). HasRisen n next_source.faults) p.steady f.rises;
}
cut_short source now_source next_source old now next buffer Limit p none running f = record {
  running = still_running old.ended now.ended p.still running;
  given = p.given ++ f.given;
  past = f.past;
  takes = subst (Takes source.left next_source.left old next)
      (sym (append_assoc p.given f.given (f.past ∷ [])))
      (takes_more source now_source next_source old now next buffer (f.given ++ f.past ∷ []) p
      running f.takes);
  one = subst HasNoLf (sym (split_more source now_source old now buffer f.given p none))
      (no_lf_append p.text f.given p.one
      (subst (λ (xs : List ℕ). HasNoLf (xs ++ f.given)) none f.one));
  over = f.over;
  steady = f.steady ∙ p.steady;
}
cut_short source now_source next_source old now next buffer NoMemory p none running f = record {
  running = still_running old.ended now.ended p.still running;
  given = p.given ++ f.given;
  takes = takes_more source now_source next_source old now next buffer f.given p running f.takes;
  some =
      let e = ap (length {A = ℕ}) (split_more source now_source old now buffer f.given p none) in
      let l = length-append p.text f.given in
      let m = ap (λ (xs : List ℕ). length (xs ++ f.given)) none in
      omega (arith, e, l, m, f.some);
  fits = f.fits;
  steady = f.steady ∙ p.steady;
}

-- memory ran out at a part of the line that has bytes
has_more : (ended : Bool) (pending : List ℕ) (n : ℕ) → (ended ≡ true → pending ≡ []) → 0 < n
    → n ≤ length pending → ended ≡ false
has_more false pending n idle some within = refl
has_more true pending n idle some within = let e = ap (length {A = ℕ}) (idle refl) in
    absurd (omega (arith, e, some, within))

pub stopped_in_line : (source now_source : SourceState) (old now : ReaderState)
    (buffer : LineBuffer) (n : ℕ) → Partly source now_source old now buffer → 0 < n
    → n ≤ length now.pending
    → StopsInLine source now_source old now
stopped_in_line source now_source old now buffer n p some within = record {
  running = still_running old.ended now.ended p.still
      (has_more now.ended now.pending n (λ e. (p.idle e).0) some within);
  given = p.given;
  takes = p.takes;
  some = let e = ap (length {A = ℕ}) p.split ∙ length-append p.text now.pending in
      omega (arith, e, some, within);
  fits = p.fits;
  steady = p.steady;
}

-- ---- a failed read, and one past the limit

pub failed_read : (source next_source : SourceState) (old : ReaderState) → old.ended ≡ false
    → old.pending ≡ [] → old.total ≤ INPUT_LIMIT → Consumes source.left next_source.left []
    → HasRisen source.faults next_source.faults
    → FailsInLine source next_source old old
failed_read source next_source old running none fits kept rises = record {
  running = running;
  given = [];
  takes = record { whole = kept; count = omega arith; none = λ e. refl };
  one = λ k d within. let e = ap (λ (xs : List ℕ). length (xs ++ [])) none in
      absurd (omega (arith, e, within));
  fits = fits;
  rises = rises;
}

pub one_byte : (xs : List ℕ) → length xs ≡ 1 → (past : ℕ) × (xs ≡ past ∷ [])
one_byte [] e = absurd (omega (arith, e))
one_byte (x ∷ []) e = (x, refl)
one_byte (x ∷ y ∷ xs) e = absurd (omega (arith, e))

pub read_past : (source next_source : SourceState) (old next : ReaderState) (given : List ℕ)
    → old.pending ≡ [] → old.ended ≡ false → Consumes source.left next_source.left given
    → length given ≡ 1
    → old.total ≡ INPUT_LIMIT → next.total ≡ old.total + length given
    → next_source.faults ≡ source.faults → PassesLimit source next_source old next
read_past source next_source old next given none running whole one full count steady =
    let p = one_byte given one in
    record {
      running = running;
      given = [];
      past = p.0;
      takes = record {
        whole = subst (Consumes source.left next_source.left) p.1 whole;
        count =
            omega (arith, count, one);
        none = λ e. absurd (true≢false (sym e ∙ running));
      };
      one = λ k d within. let e = ap (λ (xs : List ℕ). length (xs ++ [])) none in
          absurd (omega (arith, e, within));
      over = omega (arith, count, one, full);
      steady = steady;
    }

pub skipped : (now mid new : ReaderState) (at : ℕ) → mid ≡ after_taking now at
    → new ≡ after_taking mid 1 → new ≡ after_taking now (at + 1)
skipped now mid new at first second =
    second ∙ ap (λ (r : ReaderState). after_taking r 1) first
    ∙ ap (λ xs. record { pending = xs; total = now.total; ended = now.ended })
    (drop-drop 1 at now.pending)

pub rest_none : (now : ReaderState) (n : ℕ) → n ≡ length now.pending
    → (after_taking now n).pending ≡ []
rest_none now n all = drop_all n now.pending (omega arith)

-- each read brings the end nearer
pub nearer : (ended was : Bool) (a b n : ℕ) → was ≡ false → b ≡ a + n → b ≤ INPUT_LIMIT
    → (ended ≡ false → 0 < n)
    → (INPUT_LIMIT + 1 - b) + cond ended 0 1 < (INPUT_LIMIT + 1 - a) + cond was 0 1
nearer true was a b n running more fits some = rw running (omega arith)
nearer false was a b n running more fits some = let h = some refl in rw running (omega arith)
