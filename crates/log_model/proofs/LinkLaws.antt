-- Calls of a link in a row only go on: the log gets longer, and nothing else changes.
use Rattle.std.proofs.Common.{◌≡◌, ℕ, List, [], ◌∷◌, ◌++◌, length, take, drop, cond, true, Result, Ok, Err, subst, sym, ap, refl, ◌∙◌, arith, append_assoc}
use Rattle.std.specs.List.{filter}
use Rattle.std.proofs.lemmas.Bool.{eq-eqb}
use Rattle.std.proofs.lemmas.List.{append-nil, take_all, drop_all, take-append-le, take-append-drop, drop-append-le}
use Rattle.std.proofs.lemmas.List.Elements.{filter-append}
use Rattle.basics.proofs.Prefix.{prefix-fits, prefix-trans}
use Rattle.log_model.specs.declared.entry.Act.{Act}
use Rattle.log_model.specs.declared.entry.Entry.{Entry}
use Rattle.log_model.specs.declared.refusals.LinkRefused.{LinkRefused}
use Rattle.log_model.specs.Legal.{Legal, all_of}
use Rattle.log_model.specs.Link.{LinkState, IsCall, OnlyReads, AddsAct, FollowsFrom, is_by, log_met, entry_if_ok, after_act_alone}
use Rattle.log_model.specs.Laws.{CallsFollow, ReadsArePart, CallsAlone}

-- ---- a list that begins with another

-- what is new behind the first is what is new behind it up to the second, and what is new behind
-- that
pub new-joins : (xs ys zs : List Entry) → take (length xs) ys ≡ xs → take (length ys) zs ≡ ys
    → drop (length xs) zs ≡ drop (length xs) ys ++ drop (length ys) zs
new-joins xs ys zs first second =
    ap (drop (length xs)) (sym (take-append-drop (length ys) zs)
    ∙ ap (λ (front : List Entry). front ++ drop (length ys) zs) second)
    ∙ drop-append-le (length xs) ys (drop (length ys) zs) (prefix-fits xs ys first)

-- ---- one call

no-call : (a : LinkState) → FollowsFrom a a
no-call a =
    let none : drop (length a.seen) a.seen ≡ [] = drop_all (length a.seen) a.seen (omega arith) in
    let nothing : filter (is_by a.caller) (drop (length a.seen) a.seen) ≡ [] =
    ap (filter (is_by a.caller)) none in
    record {
      machine = refl;
      capacities = refl;
      caller = refl;
      turn = refl;
      unshared = refl;
      seen = take_all (length a.seen) a.seen (omega arith);
      own = sym (ap (λ (xs : List Entry). a.own ++ xs) nothing ∙ append-nil a.own);
      alone = λ _. nothing ∙ sym none;
      legal = λ h. h;
    }

abbrev after_call : LinkState → List Entry → List Entry → LinkState
after_call a log added = record a { seen = log ++ added; own = a.own ++ added }

new-of-call : (a b : LinkState) (log added : List Entry) → IsCall log added a b
    → drop (length a.seen) (log ++ added) ≡ drop (length a.seen) log ++ added
new-of-call a b log added h =
    drop-append-le (length a.seen) log added (prefix-fits a.seen log h.goes_on)

one-call : (a b : LinkState) (log added : List Entry) → filter (is_by a.caller) added ≡ added
    → IsCall log added a b → FollowsFrom a (after_call a log added)
one-call a b log added mine h =
    let fits = prefix-fits a.seen log h.goes_on in
    let new = new-of-call a b log added h in
    let own_new : filter (is_by a.caller) (drop (length a.seen) (log ++ added)) ≡ added =
    ap (filter (is_by a.caller)) new
    ∙ filter-append (is_by a.caller) (drop (length a.seen) log) added
    ∙ ap (λ (xs : List Entry). xs ++ filter (is_by a.caller) added) h.others ∙ mine in
    record {
      machine = refl;
      capacities = refl;
      caller = refl;
      turn = refl;
      unshared = refl;
      seen = take-append-le (length a.seen) log added fits ∙ h.goes_on;
      own = ap (λ (xs : List Entry). a.own ++ xs) (sym own_new);
      alone = λ is. own_new
          ∙ sym (new ∙ ap (λ (xs : List Entry). xs ++ added) (ap (drop (length a.seen)) (h.alone is)
          ∙ drop_all (length a.seen) a.seen (omega arith)));
      legal = λ _. h.legal;
    }

call : (a b : LinkState) (log added : List Entry) → filter (is_by a.caller) added ≡ added
    → IsCall log added a b → FollowsFrom a b
call a b log added mine h = subst (FollowsFrom a) (sym h.new_is) (one-call a b log added mine h)

-- ---- calls in a row

in-a-row : (a b c : LinkState) → FollowsFrom a b → FollowsFrom b c → FollowsFrom a c
in-a-row a b c first second =
    let new = new-joins a.seen b.seen c.seen first.seen second.seen in
    let mine : filter (is_by a.caller) (drop (length a.seen) c.seen)
    ≡ filter (is_by a.caller) (drop (length a.seen) b.seen) ++ filter (is_by a.caller)
    (drop (length b.seen) c.seen) =
    ap (filter (is_by a.caller)) new
    ∙ filter-append (is_by a.caller) (drop (length a.seen) b.seen) (drop (length b.seen) c.seen)
    in
    record {
      machine = second.machine ∙ first.machine;
      capacities = second.capacities ∙ first.capacities;
      caller = second.caller ∙ first.caller;
      turn = second.turn ∙ first.turn;
      unshared = second.unshared ∙ first.unshared;
      seen = prefix-trans a.seen b.seen c.seen first.seen second.seen;
      own = second.own ∙ ap (λ (who : ℕ). b.own ++ filter (is_by who) (drop (length b.seen) c.seen))
          first.caller
          ∙ ap (λ (xs : List Entry). xs ++ filter (is_by a.caller) (drop (length b.seen) c.seen))
          first.own
          ∙ append_assoc a.own (filter (is_by a.caller) (drop (length a.seen) b.seen))
          (filter (is_by a.caller) (drop (length b.seen) c.seen))
          ∙ ap (λ (xs : List Entry). a.own ++ xs) (sym mine);
      alone = λ is. mine ∙ ap
          (λ (xs : List Entry). xs ++ filter (is_by a.caller) (drop (length b.seen) c.seen))
          (first.alone is)
          ∙ ap (λ (xs : List Entry). drop (length a.seen) b.seen ++ xs)
          (ap (λ (who : ℕ). filter (is_by who) (drop (length b.seen) c.seen)) (sym first.caller)
          ∙ second.alone (first.unshared ∙ is))
          ∙ sym new;
      legal = λ h. subst (λ (sizes : List ℕ). Legal (all_of sizes) c.seen) first.capacities
          (second.legal (subst (λ (sizes : List ℕ). Legal (all_of sizes) b.seen)
          (sym first.capacities) (first.legal h)));
    }

pub reads-go_on : (a b : LinkState) → OnlyReads a b → FollowsFrom a b
reads-go_on a b h = call a b b.seen [] refl h

pub calls_follow : (a b : LinkState) → CallsFollow a b
calls_follow a b = record
    { no_call = no-call a; reads = reads-go_on a b; call = call a b; in_a_row = in-a-row a b }

-- a call that only reads, and then another
pub reads_are_part : ReadsArePart
reads_are_part a b c log added first second =
    let caller : b.caller ≡ a.caller = ap (λ (x : LinkState). x.caller) first.new_is in
    let capacities : b.capacities ≡ a.capacities =
    ap (λ (x : LinkState). x.capacities) first.new_is in
    let unshared : b.unshared ≡ a.unshared = ap (λ (x : LinkState). x.unshared) first.new_is in
    record {
      new_is = second.new_is ∙ ap (λ (x : LinkState). after_call x log added) first.new_is
          ∙ ap (λ (xs : List Entry). record a { seen = log ++ added; own = xs ++ added })
          (append-nil a.own);
      goes_on = prefix-trans a.seen b.seen log first.goes_on second.goes_on;
      others = ap (filter (is_by a.caller))
          (new-joins a.seen b.seen log first.goes_on second.goes_on)
          ∙ filter-append (is_by a.caller) (drop (length a.seen) b.seen) (drop (length b.seen) log)
          ∙ ap (λ (xs : List Entry). xs ++ filter (is_by a.caller) (drop (length b.seen) log))
          first.others
          ∙ ap (λ (who : ℕ). filter (is_by who) (drop (length b.seen) log)) (sym caller)
          ∙ second.others;
      alone = λ is. second.alone (unshared ∙ is) ∙ first.alone is;
      legal = subst (λ (sizes : List ℕ). Legal (all_of sizes) (log ++ added)) capacities
          second.legal;
    }

-- ---- the calls of a link, each as it promises

own-entry : {T : Type 0} (a : LinkState) (result : Result T LinkRefused) (act : Act)
    → filter (is_by a.caller) (entry_if_ok result (record { who = a.caller; act = act }))
    ≡ entry_if_ok result (record { who = a.caller; act = act })
own-entry a (Ok x) act =
    ap (λ b. cond b (record { who = a.caller; act = act } ∷ []) []) (eq-eqb a.caller a.caller refl)
own-entry a (Err r) act = refl

pub adds-go_on : {T : Type 0} (a b : LinkState) (result : Result T LinkRefused) (act : Act)
    → AddsAct result act a b → FollowsFrom a b
adds-go_on a b result act h =
    call a b (log_met result b) (entry_if_ok result (record { who = a.caller; act = act }))
    (own-entry a result act) h

pub read-then-adds : {T : Type 0} (a b c : LinkState) (result : Result T LinkRefused) (act : Act)
    → OnlyReads a b → AddsAct result act b c → AddsAct result act a c
read-then-adds a b c result act first second =
    let caller : b.caller ≡ a.caller = ap (λ (x : LinkState). x.caller) first.new_is in
    reads_are_part a b c (log_met result c)
    (entry_if_ok result (record { who = a.caller; act = act })) first
    (subst (λ (who : ℕ). IsCall (log_met result c)
    (entry_if_ok result (record { who = who; act = act })) b c) caller second)

-- ---- where nobody else reaches the machine

pub calls_alone : (a b : LinkState) → a.unshared ≡ true → CallsAlone a b
calls_alone a b is = record {
  met = λ log added h. h.alone is;
  adds = λ log added h. h.new_is
      ∙ ap (λ (xs : List Entry). record a { seen = xs ++ added; own = a.own ++ added })
      (h.alone is);
  reads = λ h. h.new_is
      ∙ ap (λ (xs : List Entry). record a { seen = xs; own = a.own ++ [] })
      (append-nil b.seen ∙ h.alone is)
      ∙ ap (λ (xs : List Entry). record a { seen = a.seen; own = xs }) (append-nil a.own);
}

-- so each call as it promises leaves the one entry more where it is accepted, and else nothing new
pub adds-alone : {T : Type 0} (a b : LinkState) (result : Result T LinkRefused) (act : Act)
    → a.unshared ≡ true → AddsAct result act a b → b ≡ after_act_alone result act a
adds-alone a b (Ok x) act is h =
    (calls_alone a b is).adds (log_met (Ok x) b) (record { who = a.caller; act = act } ∷ []) h
adds-alone a b (Err r) act is h = (calls_alone a b is).reads h

pub met-alone : {T : Type 0} (a b : LinkState) (result : Result T LinkRefused) (act : Act)
    → a.unshared ≡ true → AddsAct result act a b → log_met result b ≡ a.seen
met-alone a b result act is h = h.alone is
