-- The order of the names of an object.
use Rattle.std.proofs.Common.{◌≡◌, ℕ, Bool, true, false, List, Option, Some, None, Ordering, Less, Equal, Greater, if◌then◌else◌, option_map, option_and_then, refl, sym, ap, subst, ◌∙◌, nat_cmp, is_eq}
use Rattle.std.proofs.lemmas.Cmp.{nat_list_cmp_total}
use Rattle.std.proofs.lemmas.Option.{option_and_then_some}
use Rattle.std.proofs.lemmas.Map.Text.{is_eq-slice_cmp}
use Rattle.std.proofs.lemmas.Slice.Eq.{bytes_eq-Decides}
use Rattle.std.specs.Cmp.Lexicographic.{slice_cmp}
use Rattle.std.specs.Ordering.{match_ordering, ordering_reverse}
use Rattle.std.specs.Str.{is_utf8}
use Rattle.json.specs.Json as json
use Rattle.json.specs.Lex.{tokens}
use Rattle.serde_json.specs.Data.{Num, Data, number, array, object, Items, Members, no_members, member, put}
use Rattle.serde_json.specs.Find.{get_member}
use Rattle.serde_json.specs.Read.{read, of_json, of_items, of_members, number_of, max_depth}
use Rattle.cmd_json.specs.Laws.{IsBefore, Ascends, KeepsOrder}
use Rattle.cmd_json.specs.Members.{without}

-- ---- a member is put in

pub before_all : (k l : List ℕ) (ms : Members) → slice_cmp nat_cmp k l ≡ Less → IsBefore l ms
    → IsBefore k ms
before_all k l no_members less h = tt
before_all k l (member q d ms) less h =
    (nat_list_cmp_total.trans k l q less h.0, before_all k l ms less h.1)

before_put_at : (o : Ordering) (q k l : List ℕ) (d e : Data) (ms : Members)
    → slice_cmp nat_cmp q k ≡ Less → IsBefore q (member l e ms) → IsBefore q (put k d ms)
    → IsBefore q (match_ordering o (member k d (member l e ms)) (member l d ms)
    (member l e (put k d ms)))
before_put_at Less q k l d e ms less h rest = (less, h)
before_put_at Equal q k l d e ms less h rest = h
before_put_at Greater q k l d e ms less h rest = (h.0, rest)

before_put : (q k : List ℕ) (d : Data) (ms : Members) → slice_cmp nat_cmp q k ≡ Less
    → IsBefore q ms → IsBefore q (put k d ms)
before_put q k d no_members less h = (less, tt)
before_put q k d (member l e ms) less h =
    before_put_at (slice_cmp nat_cmp k l) q k l d e ms less h (before_put q k d ms less h.1)

put_ascends_at : (o : Ordering) (k l : List ℕ) (d e : Data) (ms : Members)
    → slice_cmp nat_cmp k l ≡ o → Ascends (member l e ms) → Ascends (put k d ms)
    → Ascends (match_ordering o (member k d (member l e ms)) (member l d ms)
    (member l e (put k d ms)))
put_ascends_at Less k l d e ms is h rest = ((is, before_all k l ms is h.0), h)
put_ascends_at Equal k l d e ms is h rest = h
put_ascends_at Greater k l d e ms is h rest =
    let above = nat_list_cmp_total.antisymm l k ∙ ap ordering_reverse is in
    (before_put l k d ms above h.0, rest)

pub put_ascends : (k : List ℕ) (d : Data) (ms : Members) → Ascends ms → Ascends (put k d ms)
put_ascends k d no_members h = (tt, tt)
put_ascends k d (member l e ms) h = put_ascends_at _ k l d e ms refl h (put_ascends k d ms h.1)

-- ---- an object is read

members_ascend : (js : json.Members) (found ms : Members) → Ascends found
    → of_members js found ≡ Some ms → Ascends ms
members_ascend json.no_members found ms h is =
    let same : found ≡ ms = cc in subst Ascends same h
members_ascend (json.member k j js) found ms h is =
    option_and_then_some (λ d. of_members js (put k d found)) (of_json j) ms is
    (λ d e rest. members_ascend js (put k d found) ms (put_ascends k d found h) rest)

number_apart : (n : Option Num) (ms : Members) → option_map number n ≡ Some (object ms) → Ascends ms
number_apart None ms is = cc
number_apart (Some n) ms is = cc

array_apart : (ds : Option Items) (ms : Members) → option_map array ds ≡ Some (object ms)
    → Ascends ms
array_apart None ms is = cc
array_apart (Some ds) ms is = cc

object_same : (found : Option Members) (ms : Members) → option_map object found ≡ Some (object ms)
    → found ≡ Some ms
object_same None ms is = cc
object_same (Some found) ms is = cc

value_ascends : (j : json.Json) (ms : Members) → of_json j ≡ Some (object ms) → Ascends ms
value_ascends json.null ms is = cc
value_ascends (json.boolean b) ms is = cc
value_ascends (json.number s) ms is = number_apart (number_of s) ms is
value_ascends (json.string s) ms is = cc
value_ascends (json.array js) ms is = array_apart (of_items js) ms is
value_ascends (json.object js) ms is =
    members_ascend js no_members ms tt (object_same (of_members js no_members) ms is)

read_ascends : (line : List ℕ) (ms : Members) → read line ≡ Some (object ms) → Ascends ms
read_ascends line ms is =
    let parsed =
    option_and_then (λ p. json.if_last p.0 p.1) (json.value max_depth (tokens line)) in
    option_and_then_some of_json parsed (object ms) is (λ j e rest. value_ascends j ms rest)

line_ascends : (utf8 : Bool) (line : List ℕ) (ms : Members)
    → (if utf8 then read line else None) ≡ Some (object ms) → Ascends ms
line_ascends true line ms is = read_ascends line ms is
line_ascends false line ms is = cc

-- ---- a member is taken out

before_without_at : (o : Ordering) (q k l : List ℕ) (e : Data) (ms : Members)
    → IsBefore q (member l e ms) → IsBefore q (without k ms)
    → IsBefore q (match_ordering o (member l e (without k ms)) ms (member l e (without k ms)))
before_without_at Less q k l e ms h rest = (h.0, rest)
before_without_at Equal q k l e ms h rest = h.1
before_without_at Greater q k l e ms h rest = (h.0, rest)

pub before_without : (q k : List ℕ) (ms : Members) → IsBefore q ms → IsBefore q (without k ms)
before_without q k no_members h = tt
before_without q k (member l e ms) h =
    before_without_at (slice_cmp nat_cmp k l) q k l e ms h (before_without q k ms h.1)

without_ascends_at : (o : Ordering) (k l : List ℕ) (e : Data) (ms : Members)
    → Ascends (member l e ms) → Ascends (without k ms)
    → Ascends (match_ordering o (member l e (without k ms)) ms (member l e (without k ms)))
without_ascends_at Less k l e ms h rest = (before_without l k ms h.0, rest)
without_ascends_at Equal k l e ms h rest = h.1
without_ascends_at Greater k l e ms h rest = (before_without l k ms h.0, rest)

without_ascends : (k : List ℕ) (ms : Members) → Ascends ms → Ascends (without k ms)
without_ascends k no_members h = tt
without_ascends k (member l e ms) h =
    without_ascends_at (slice_cmp nat_cmp k l) k l e ms h (without_ascends k ms h.1)

-- ---- what is found after that

-- a name that stands before all isn't found
unfound : (name : List ℕ) (ms : Members) → IsBefore name ms → get_member name ms ≡ None
unfound name no_members h = refl
unfound name (member k d ms) h = rw h.0 (unfound name ms h.1)

skipped : (o : Ordering) (other k : List ℕ) (d : Data) (ms : Members)
    → slice_cmp nat_cmp other k ≡ o → (other ≡ k → ⊥)
    → get_member other ms ≡ get_member other (member k d ms)
skipped Less other k d ms is apart = rw is refl
skipped Equal other k d ms is apart =
    absurd (apart ((bytes_eq-Decides other k).0 (sym (is_eq-slice_cmp other k) ∙ ap is_eq is)))
skipped Greater other k d ms is apart = rw is refl

taken_at : (o : Ordering) (name k : List ℕ) (d : Data) (ms : Members)
    → slice_cmp nat_cmp name k ≡ o → Ascends (member k d ms)
    → get_member name (without name ms) ≡ None
    → get_member name (match_ordering o (member k d (without name ms)) ms
    (member k d (without name ms))) ≡ None
taken_at Less name k d ms is h rest = rw is rest
taken_at Equal name k d ms is h rest =
    let same : name ≡ k =
    (bytes_eq-Decides name k).0 (sym (is_eq-slice_cmp name k) ∙ ap is_eq is) in
    unfound name ms (subst (λ (n : List ℕ). IsBefore n ms) (sym same) h.0)
taken_at Greater name k d ms is h rest = rw is rest

taken : (name : List ℕ) (ms : Members) → Ascends ms → get_member name (without name ms) ≡ None
taken name no_members h = refl
taken name (member k d ms) h = taken_at _ name k d ms refl h (taken name ms h.1)

others_at : (o : Ordering) (name other k : List ℕ) (d : Data) (ms : Members)
    → slice_cmp nat_cmp name k ≡ o → (other ≡ name → ⊥)
    → get_member other (without name ms) ≡ get_member other ms
    → get_member other (match_ordering o (member k d (without name ms)) ms
    (member k d (without name ms))) ≡ get_member other (member k d ms)
others_at Less name other k d ms is apart rest =
    ap (λ found. match_ordering (slice_cmp nat_cmp other k) found (Some d) found) rest
others_at Equal name other k d ms is apart rest = skipped _ other k d ms refl
    (λ same. apart (same ∙ sym
    ((bytes_eq-Decides name k).0 (sym (is_eq-slice_cmp name k) ∙ ap is_eq is))))
others_at Greater name other k d ms is apart rest =
    ap (λ found. match_ordering (slice_cmp nat_cmp other k) found (Some d) found) rest

others : (name other : List ℕ) (ms : Members) → (other ≡ name → ⊥)
    → get_member other (without name ms) ≡ get_member other ms
others name other no_members apart = refl
others name other (member k d ms) apart =
    others_at _ name other k d ms refl apart (others name other ms apart)

pub order_is_kept : KeepsOrder
order_is_kept = record {
  read = λ line ms is. line_ascends (is_utf8 line) line ms is;
  left = without_ascends;
  taken = taken;
  others = others;
}
