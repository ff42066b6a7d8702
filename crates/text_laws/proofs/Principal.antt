-- The types that were found are a principal typing: typing was complete also for what items left.
use Rattle.std.proofs.Common.{◌≡◌, ◌∙◌, ◌⊎◌, inl, inr, ℕ, zero, suc, ◌+◌, ◌-◌, ◌/◌, ◌%◌, ◌^◌, ◌<◌, ◌==◌, nat_lt, Bool, true, false, Option, Some, None, List, [], ◌∷◌, ◌++◌, length, refl, sym, ap, subst, arith, if◌then◌else◌}
use Rattle.std.specs.Prelude.{slice_get}
use Rattle.std.proofs.lemmas.Nat.{div-add-mod'}
use Rattle.type_model.specs.Types.{Typ, Var}
use Rattle.type_model.specs.Substitutions.{Subst, apply}
use Rattle.type_model.proofs.Applying.{apply_agree, apply_leaves}
use Rattle.std.specs.Option.{option_or}
use Rattle.std.proofs.lemmas.Bool.{eqb-true}
use Rattle.typing_laws.proofs.Bools.{no_yes}
use Rattle.tree_model.specs.Trees.{Tree}
use Rattle.signature_model.specs.Entries.{Environment}
use Rattle.typing_model.specs.Contexts.{Choice}
use Rattle.typing_model.specs.Demands.{Site}
use Rattle.typing_model.specs.Typings.{outermost, conditions_of, IsPrincipal}
use Rattle.typing_model.specs.Typings as typings
use Rattle.type_nodes.specs.Nodes.{Node, IsNode, IsSound}
use Rattle.type_nodes.specs.Readings.{Types, Fits}
use Rattle.type_nodes.proofs.Identity.{identity}
use Rattle.level_unify.proofs.Unified.{fits_loosely}
use Rattle.typing_conditions.specs.Locals.{IsPlain, IsOwn}
use Rattle.typing_conditions.specs.Sights.{Sight, Key, value_of, Letters, IsGiven, AreGiven, AreNodes, number_in}
use Rattle.typing_conditions.proofs.Judged.{given_both, nodes_both}
use Rattle.typing_conditions.specs.Judging.{FallsShort, judgements}
use Rattle.typing_conditions.proofs.Adequate.{never_short, kept_of}
use Rattle.typing_conditions.proofs.Own.{own_of}
use Rattle.typing_conditions.proofs.Roots.{own_reads}
use Rattle.typing_rows.specs.Settled.{Fixes, AreFixed}
use Rattle.binding_rows.specs.Outside.{Left, letters_left, AreDecided, ContinuesItems, ItemsCarried}
use Rattle.binding_rows.specs.ItemRows.{AreOwned}
use Rattle.typing_model.specs.Meanings.{items_of}
use Rattle.typing_model.specs.Plain.{has_values_alone}
use Rattle.fault_model.specs.Values.{are_bare}
use Rattle.site_laws.proofs.Texts.{AreSmall}
use Rattle.text_laws.specs.Texts.{text_asks, IsTyped}
use Rattle.typing_conditions.specs.Hiding.{plain_key, is_own, ArePlaced, NoneDoubtful}
use Rattle.text_laws.specs.Reading.{node_for, recorded_at, type_or, first_there, decided_in, decided_at, or_type, read_choice, AreClosed, DoubtfulAreOne}
use Rattle.text_laws.proofs.Kept.{met, enters}
use Rattle.text_laws.proofs.Owners.{none_left}
use Rattle.text_laws.proofs.Reading.{own_is, value_plain, text_typed, values_typed, none_decided, none_doubted}

place_inside : {A : Type 0} {x : A} (xs : List A) (k : ℕ) → slice_get xs k ≡ Some x → k < length xs
place_inside [] k e = absurd (cc)
place_inside (y ∷ ys) zero e = omega arith
place_inside (y ∷ ys) (suc k) e = let h = place_inside ys k e in omega arith

-- what is given is so at each place
given_at : (xs : Letters) (V : Types) (ch : Choice) → AreGiven xs V ch → (k : ℕ) (x : Key × ℕ) → slice_get xs k ≡ Some x → IsGiven V ch x.0 x.1
given_at [] V ch h k x e = absurd (cc)
given_at (y ∷ ys) V ch h zero x e = let same : y ≡ x = cc in subst (λ (z : Key × ℕ). IsGiven V ch z.0 z.1) same h.0
given_at (y ∷ ys) V ch h (suc k) x e = given_at ys V ch h.1 k x e

node_at : (xs : Letters) (nodes : List Node) → AreNodes xs nodes → (k : ℕ) (x : Key × ℕ) → slice_get xs k ≡ Some x → IsNode nodes x.1
node_at [] nodes h k x e = absurd (cc)
node_at (y ∷ ys) nodes h zero x e = let same : y ≡ x = cc in subst (λ (z : Key × ℕ). IsNode nodes z.1) same h.0
node_at (y ∷ ys) nodes h (suc k) x e = node_at ys nodes h.1 k x e

-- what is found is one of the letters
pub record ComesFrom (test : Key → Bool) (keys : Letters) (m : ℕ) : Type 0 where
  pub place : ℕ
  pub entry : Key × ℕ
  pub at : slice_get keys place ≡ Some entry
  pub passes : test (plain_key entry.0) ≡ true
  pub node : entry.1 ≡ m

comes_from : (test : Key → Bool) (keys : Letters) (m : ℕ) → node_for test keys ≡ Some m → ComesFrom test keys m
comes_from test [] m e = absurd (cc)
comes_from test (y ∷ ys) m e = by (test (plain_key y.0)) refl e (comes_from test ys m)
  where
    by : (b : Bool) → test (plain_key y.0) ≡ b → (if b then Some y.1 else node_for test ys) ≡ Some m → (node_for test ys ≡ Some m → ComesFrom test ys m) → ComesFrom test (y ∷ ys) m
    by true holds f further = record { place = zero; entry = y; at = refl; passes = holds; node = cc }
    by false fails f further = let c = further f in record { place = suc c.place; entry = c.entry; at = c.at; passes = c.passes; node = c.node }

-- a node that stands for a number has its type in each choice that agrees
stands_for : (b : Sight) (keys : Letters) (W : Types) (ch : Choice) → ((i p m : ℕ) → b.types i p ≡ Some m → ch.type_at (number_in i p) ≡ W m) → ((i p m : ℕ) → b.types i p ≡ Some m → IsNode b.nodes m) → AreGiven keys W ch → AreNodes keys b.nodes →
    (n m : ℕ) (o : Option ℕ) → recorded_at b n ≡ o → first_there o (node_for (is_own n) keys) ≡ Some m → (ch.type_at n ≡ W m) × IsNode b.nodes m
stands_for b keys W ch recorded inside given nodes n m (Some j) e f =
    let same : j ≡ m = cc in
    let there : b.types (n / 2 ^ 32) (n % 2 ^ 32) ≡ Some m = e ∙ ap Some same in
    (ap ch.type_at (sym (div-add-mod' n (2 ^ 32))) ∙ recorded (n / 2 ^ 32) (n % 2 ^ 32) m there, inside (n / 2 ^ 32) (n % 2 ^ 32) m there)
stands_for b keys W ch recorded inside given nodes n m None e f =
    let c = comes_from (is_own n) keys m f in
    let g = given_at keys W ch given c.place c.entry c.at in (
      sym (ap (value_of ch) (own_is n (plain_key c.entry.0) c.passes)) ∙ sym (value_plain ch c.entry.0) ∙ g.is ∙ ap W c.node,
      subst (IsNode b.nodes) c.node (node_at keys b.nodes nodes c.place c.entry c.at),
    )

-- the substitution that gives the nodes' variables these types, and each variable behind them that of a number
abbrev gives : ℕ → Types → Choice → Subst
gives n W ch v = if nat_lt v n then W v else ch.type_at (v - n)

below : (n v : ℕ) → v < n → nat_lt v n ≡ true
below n v h = grind arith

above : (n k : ℕ) → nat_lt (n + k) n ≡ false
above n k = grind arith

back : (n k : ℕ) → (n + k) - n ≡ k
back n k = omega arith

-- a choice that has the types that are decided has the one that is found for a node
fixed_is : (ch : Choice) (fs : Fixes) (n : ℕ) (t : Typ) → AreFixed fs ch → decided_in n fs ≡ Some t → ch.type_at n ≡ t
fixed_is ch [] n t h e = absurd (cc)
fixed_is ch (f ∷ fs) n t h e = by (n == f.0) refl e (fixed_is ch fs n t h.1)
  where
    by : (b : Bool) → (n == f.0) ≡ b → (if b then Some f.1 else decided_in n fs) ≡ Some t → (decided_in n fs ≡ Some t → ch.type_at n ≡ t) → ch.type_at n ≡ t
    by true same g further = let is : f.1 ≡ t = cc in ap ch.type_at (eqb-true n f.0 same) ∙ h.0 ∙ is
    by false other g further = further g

decided_is : (ch : Choice) (ls : List Left) (n : ℕ) (t : Typ) → AreDecided ls ch → decided_at n ls ≡ Some t → ch.type_at n ≡ t
decided_is ch [] n t h e = absurd (cc)
decided_is ch (l ∷ ls) n t h e = by (decided_in n l.fixed) refl e (decided_is ch ls n t h.1)
  where
    by : (o : Option Typ) → decided_in n l.fixed ≡ o → option_or o (decided_at n ls) ≡ Some t → (decided_at n ls ≡ Some t → ch.type_at n ≡ t) → ch.type_at n ≡ t
    by None is g further = further g
    by (Some u) is g further = fixed_is ch l.fixed n t h.0 (is ∙ g)

-- the types that are read off at the nodes' own types give those of each other choice by one substitution
found_general : (b : Sight) (I : Types) → IsOwn b.nodes I → (keys : Letters) (left : List Left) (W : Types) (ch : Choice) → Fits b.nodes W → ((i p m : ℕ) → b.types i p ≡ Some m → ch.type_at (number_in i p) ≡ W m) → ((i p m : ℕ) → b.types i p ≡ Some m → IsNode b.nodes m) →
    AreGiven keys W ch → AreNodes keys b.nodes → AreDecided left ch → AreClosed left → (n : ℕ) → ch.type_at n ≡ apply (gives (length b.nodes) W ch) ((read_choice I b keys left).type_at n)
found_general b I own_types keys left W ch fits recorded inside given nodes decided closed n = decided_or (decided_at n left) refl
  where
    s : Subst
    s = gives (length b.nodes) W ch

    by : (o : Option ℕ) → first_there (recorded_at b n) (node_for (is_own n) keys) ≡ o → ch.type_at n ≡ apply s (type_or I (Var (length b.nodes + n)) o)
    by None e = sym (ap (λ c. if c then W (length b.nodes + n) else ch.type_at ((length b.nodes + n) - length b.nodes)) (above (length b.nodes) n) ∙ ap ch.type_at (back (length b.nodes) n))
    by (Some m) e =
        let (is, node) = stands_for b keys W ch recorded inside given nodes n m (recorded_at b n) refl e in
        is ∙ own_types.comes W (fits_loosely b.nodes W fits) m
        ∙ apply_agree W s (I m) (λ v o. let var = own_types.only m v node o in sym (ap (λ c. if c then W v else ch.type_at (v - length b.nodes)) (below (length b.nodes) v (place_inside b.nodes v var.at))))

    decided_or : (o : Option Typ) → decided_at n left ≡ o → ch.type_at n ≡ apply s (or_type (type_or I (Var (length b.nodes + n)) (first_there (recorded_at b n) (node_for (is_own n) keys))) o)
    decided_or (Some t) e = decided_is ch left n t decided e ∙ sym (apply_leaves s t (λ v o. absurd (no_yes (sym (closed n t e v) ∙ o))))
    decided_or None e = by (first_there (recorded_at b n) (node_for (is_own n) keys)) refl

-- So where a choice was read off at the nodes' own types, its types are a principal typing of the text.
pub text_principal : {env : Environment} {text : List Tree} {kept : Site → Bool} {a b : Sight} {G : Letters} (h : IsTyped env text kept a b G) → AreClosed h.carried.left → IsOwn b.nodes h.types → h.choice ≡ read_choice h.types b (G ++ letters_left h.carried.left) h.carried.left → IsPrincipal env text kept h.choice.type_at
text_principal {env} {text} {kept} {a} {b} {G} h closed own_types read = record {
  fits = record { choice = h.choice; chosen = λ n. refl; holds = (met h).holds };
  general = λ others fits. found others fits (h.carried.complete (identity h.sound.0 a.nodes) (outermost env kept fits.choice) (enters h kept fits.choice) fits.holds);
}
  where
    keys : Letters
    keys = G ++ letters_left h.carried.left

    found : (others : ℕ → Typ) (fits : typings.Fits kept (conditions_of env text kept) others) →
        ContinuesItems (text_asks text) a b G h.carried.left h.carried.judged (identity h.sound.0 a.nodes) (outermost env kept fits.choice) ⊎ FallsShort (judgements kept (conditions_of env text kept fits.choice)) h.carried.judged →
        (s : Subst) × ((n : ℕ) → others n ≡ apply s (h.choice.type_at n))
    found others fits (inr short) = absurd (never_short kept (conditions_of env text kept fits.choice) h.carried.judged h.reads.kept short)
    found others fits (inl goes) =
        let inside = h.carried.stays.inside (enters h kept fits.choice).inside in
        let given = given_both goes.types fits.choice G (letters_left h.carried.left) goes.agrees.given goes.left_too.1 in
        let nodes = nodes_both G (letters_left h.carried.left) b.nodes inside.given goes.left_too.0 in (
          gives (length b.nodes) goes.types fits.choice,
          λ n.
              sym (fits.chosen n)
              ∙ found_general b h.types own_types keys h.carried.left goes.types fits.choice goes.fits goes.agrees.recorded inside.recorded given nodes goes.decided closed n
              ∙ ap (λ (ch : Choice). apply (gives (length b.nodes) goes.types fits.choice) (ch.type_at n)) (sym read),
        )

-- So the types that a text of `let`, `;;` and exceptions without an argument was found to have are a principal typing of it, with the demands that were kept, where doubtful letters have one type for one thing at the nodes' own types. They are those types, and what was carried is what was given.
pub values_principal : {env : Environment} {text : List Tree} {a b : Sight} {G : Letters} (p : ItemsCarried (λ ch. env) (text_asks text) a [] b G) → AreOwned (items_of text) p.left → ((i k : ℕ) → a.types i k ≡ None) → IsSound a.nodes → has_values_alone text ≡ true → are_bare text ≡ true → AreSmall text → IsPlain b.nodes →
    (J : Types) → IsOwn b.nodes J → DoubtfulAreOne J b (letters_left p.left) → (h : IsTyped env text (kept_of p.judged) a b G) × IsPrincipal env text (kept_of p.judged) h.choice.type_at × IsOwn b.nodes h.types × (h.carried ≡ p)
unfolding values_typed text_typed
values_principal {env} {text} {b = b} {G = G} p owned none sound values bare small plain J own rest =
    let h = values_typed {env = env} {text = text} p owned none sound values bare small J (own_reads b.nodes J own) (own.known plain) rest in
    (h, text_principal {env = env} {text = text} h (λ n t e. absurd (let f : None ≡ Some t = sym (none_decided p.left (none_left text values bare owned) n) ∙ e in cc)) own refl, own, refl)

-- The same where none is doubtful: nothing is asked of types then.
pub sure_principal : {env : Environment} {text : List Tree} {a b : Sight} {G : Letters} (p : ItemsCarried (λ ch. env) (text_asks text) a [] b G) → AreOwned (items_of text) p.left → ((i k : ℕ) → a.types i k ≡ None) → IsSound a.nodes → has_values_alone text ≡ true → are_bare text ≡ true → AreSmall text → IsPlain b.nodes →
    NoneDoubtful (letters_left p.left) → ArePlaced b → (h : IsTyped env text (kept_of p.judged) a b G) × IsPrincipal env text (kept_of p.judged) h.choice.type_at × IsOwn b.nodes h.types × (h.carried ≡ p)
sure_principal {env} {text} {b = b} p owned none sound values bare small plain sure placed =
    let (J, own) = own_of b.nodes (p.stays.sound sound) in
    values_principal {env = env} {text = text} p owned none sound values bare small plain J own (none_doubted J (letters_left p.left) sure placed)
