-- What a text asks a query for: something, and no two things.
use Rattle.std.proofs.Common.{◌≡◌, ℕ, zero, suc, ◌<◌, ◌^◌, Bool, true, false, ltb, ◌&&◌, ◌==◌, nat_le, List, Contains, Result, Ok, Err, ◌⊎◌, inl, inr, Decides, decimal, refl, ap, ◌∙◌, sym, subst, arith}
use Rattle.std.specs.Set.{is_member}
use Rattle.std.specs.Str.{bytes_eq}
use Rattle.std.proofs.lemmas.Bool.{false≢true, ltb-true, ltb-false, leb-true, le-leb, and_parts, and_from}
use Rattle.std.proofs.lemmas.Bool.Decides.{Decides-eqb}
use Rattle.std.proofs.lemmas.Map.Made.{is_member-Decides}
use Rattle.std.proofs.lemmas.Slice.Eq.{bytes_eq-Decides}
use Rattle.change_id.specs.ChangeId.{slash, uuid_text, uuid_part, number_part, IsUuidText, IsNumberText, LacksSlash, Spells, IsAnswer}
use Rattle.change_id.specs.declared.ChangeId.{ChangeId}
use Rattle.change_id.specs.declared.IdRefused.{IdRefused}
use Rattle.change_id.specs.declared.IdRefused.TheVariants.{Form, Uuid, Number}
use Rattle.change_id.specs.declared.Since.{Since}
use Rattle.change_id.specs.declared.Since.TheVariants.{All, From}
use Rattle.change_id.proofs.AnswerLemmas.{one_answer, spelled_by_parts}
use Rattle.change_id.proofs.SpellingLemmas.{divided-spelling}
use Rattle.fleet_commands.specs.commands.Query.{from_beginning, AsksSince, AsksForOne, EachAsks}

-- ---- a number below a bound passes a test, or none does

abbrev Passes : (test : ℕ → Bool) (bound : ℕ) → Type 0
Passes test bound = (n : ℕ) × (n < bound) × (test n ≡ true)

abbrev NonePasses : (test : ℕ → Bool) (bound : ℕ) → Type 0
NonePasses test bound = (n : ℕ) → n < bound → test n ≡ false

more_fail : (test : ℕ → Bool) (bound n : ℕ) (b : Bool) → ltb n bound ≡ b → test bound ≡ false
    → NonePasses test bound → n < suc bound → test n ≡ false
more_fail test bound n true less last none within = none n (ltb-true n bound less)
more_fail test bound n false less last none within =
    let most = ltb-false n bound less in
    let same : n ≡ bound = omega (arith, most, within) in
    ap test same ∙ last

passes_or_not : (test : ℕ → Bool) (bound : ℕ) → Passes test bound ⊎ NonePasses test bound
passes_or_not test zero = inr (λ n within. absurd (omega (arith, within)))
passes_or_not test (suc bound) = by (test bound) refl (passes_or_not test bound)
  where
    by : (b : Bool) → test bound ≡ b → Passes test bound ⊎ NonePasses test bound
        → Passes test (suc bound) ⊎ NonePasses test (suc bound)
    by true last rest = inl (bound, omega arith, last)
    by false last (inl found) = let low = found.1 in inl (found.0, omega (arith, low), found.2)
    by false last (inr none) =
        inr (λ n within. more_fail test bound n (ltb n bound) refl last none within)

-- ---- so what a text may lack, it has or lacks

uuid_or_not : (text : List ℕ) → IsUuidText text ⊎ (IsUuidText text → ⊥)
uuid_or_not text = by (passes_or_not (λ n. bytes_eq text (uuid_text n)) (2 ^ 128))
  where
    by : Passes (λ n. bytes_eq text (uuid_text n)) (2 ^ 128)
        ⊎ NonePasses (λ n. bytes_eq text (uuid_text n)) (2 ^ 128)
        → IsUuidText text ⊎ (IsUuidText text → ⊥)
    by (inl found) =
        inl (found.0, found.1, (bytes_eq-Decides text (uuid_text found.0)).0 found.2)
    by (inr none) = inr (λ is. false≢true (sym (none is.0 is.1)
        ∙ (bytes_eq-Decides text (uuid_text is.0)).1 is.2))

abbrev is_text_of : List ℕ → ℕ → Bool
is_text_of text n = nat_le 1 n && bytes_eq text (decimal n)

number_or_not : (text : List ℕ) → IsNumberText text ⊎ (IsNumberText text → ⊥)
number_or_not text = by (passes_or_not (is_text_of text) (2 ^ 64))
  where
    by : Passes (is_text_of text) (2 ^ 64) ⊎ NonePasses (is_text_of text) (2 ^ 64)
        → IsNumberText text ⊎ (IsNumberText text → ⊥)
    by (inl found) =
        let parts = and_parts (nat_le 1 found.0) (bytes_eq text (decimal found.0)) found.2 in
        inl (
          found.0,
          leb-true 1 found.0 parts.0,
          found.1,
          (bytes_eq-Decides text (decimal found.0)).0 parts.1,
        )
    by (inr none) = inr (λ is. false≢true (sym (none is.0 is.2)
        ∙ and_from (nat_le 1 is.0) (bytes_eq text (decimal is.0)) (le-leb 1 is.0 is.1)
        ((bytes_eq-Decides text (decimal is.0)).1 is.3)))

has_decides : (text : List ℕ) (byte : ℕ)
    → Decides (is_member (λ a b. a == b) text byte) (Contains text byte)
has_decides text byte = is_member-Decides Decides-eqb text byte

slash_or_not : (text : List ℕ) → Contains text slash ⊎ LacksSlash text
slash_or_not text = by (is_member (λ a b. a == b) text slash) refl
  where
    by : (b : Bool) → is_member (λ a b. a == b) text slash ≡ b
        → Contains text slash ⊎ LacksSlash text
    by true is = inl ((has_decides text slash).0 is)
    by false is = inr (λ has. false≢true (sym is ∙ (has_decides text slash).1 has))

-- ---- a text has an answer

after_uuid : (text : List ℕ) → Contains text slash → IsUuidText (uuid_part text)
    → IsNumberText (number_part text) ⊎ (IsNumberText (number_part text) → ⊥)
    → (answer : Result ChangeId IdRefused) × IsAnswer text answer
after_uuid text divided uuid (inl number) = (
  Ok (record { uuid = uuid.0; seq = number.0 }),
  spelled_by_parts text uuid.0 number.0 uuid.1 number.1 number.2 divided uuid.2 number.3,
)
after_uuid text divided uuid (inr none) =
    (Err Number, record { divided = divided; has_uuid = uuid; no_number = none })

after_slash : (text : List ℕ) → Contains text slash
    → IsUuidText (uuid_part text) ⊎ (IsUuidText (uuid_part text) → ⊥)
    → (answer : Result ChangeId IdRefused) × IsAnswer text answer
after_slash text divided (inl uuid) =
    after_uuid text divided uuid (number_or_not (number_part text))
after_slash text divided (inr none) =
    (Err Uuid, record { divided = divided; no_uuid = none })

answered : (text : List ℕ) → (answer : Result ChangeId IdRefused) × IsAnswer text answer
answered text = by (slash_or_not text)
  where
    by : Contains text slash ⊎ LacksSlash text
        → (answer : Result ChangeId IdRefused) × IsAnswer text answer
    by (inl divided) = after_slash text divided (uuid_or_not (uuid_part text))
    by (inr none) = (Err Form, none)

-- ---- and asks for something

no_star : (text : List ℕ) (id : ChangeId) → Spells text id → text ≡ from_beginning → ⊥
no_star text id spells star =
    let has : Contains from_beginning slash =
    subst (λ (t : List ℕ). Contains t slash) (sym spells.spelled ∙ star)
    (divided-spelling id.uuid id.seq) in
    false≢true ((has_decides from_beginning slash).1 has)

asked_by : (text : List ℕ) → (text ≡ from_beginning → ⊥) → (answer : Result ChangeId IdRefused)
    → IsAnswer text answer → (asked : Result Since IdRefused) × AsksSince text asked
asked_by text other (Ok id) is = (Ok (From id), is)
asked_by text other (Err why) is = (Err why, (is, other))

pub each_asks : EachAsks
each_asks text = by (bytes_eq text from_beginning) refl
  where
    by : (b : Bool) → bytes_eq text from_beginning ≡ b
        → (asked : Result Since IdRefused) × AsksSince text asked
    by true is = (Ok All, (bytes_eq-Decides text from_beginning).0 is)
    by false is =
        let found = answered text in
        asked_by text (λ star. false≢true (sym is
        ∙ (bytes_eq-Decides text from_beginning).1 star)) found.0 found.1

-- ---- and for no two things

asked_as : Result ChangeId IdRefused → Result Since IdRefused
asked_as (Ok id) = Ok (From id)
asked_as (Err why) = Err why

pub asks_for_one : AsksForOne
unfolding asked_as
asks_for_one text (Ok All) (Ok All) p q = refl
asks_for_one text (Ok All) (Ok (From id)) p q = absurd (no_star text id q p)
asks_for_one text (Ok All) (Err why) p q = absurd (q.1 p)
asks_for_one text (Ok (From id)) (Ok All) p q = absurd (no_star text id p q)
asks_for_one text (Ok (From id)) (Ok (From other)) p q =
    ap asked_as (one_answer text (Ok id) (Ok other) p q)
asks_for_one text (Ok (From id)) (Err why) p q =
    ap asked_as (one_answer text (Ok id) (Err why) p q.0)
asks_for_one text (Err why) (Ok All) p q = absurd (p.1 q)
asks_for_one text (Err why) (Ok (From id)) p q =
    ap asked_as (one_answer text (Err why) (Ok id) p.0 q)
asks_for_one text (Err why) (Err other) p q =
    ap asked_as (one_answer text (Err why) (Err other) p.0 q.0)
