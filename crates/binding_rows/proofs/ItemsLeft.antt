-- What items left, and what agrees with a state after items, for several items one after the other.
use Rattle.std.proofs.Common.{◌≡◌, ◌∙◌, ℕ, ◌≤◌, true, List, [], ◌∷◌, ◌++◌, length, refl, sym, ap, subst}
use Rattle.signature_model.specs.Entries.{Environment}
use Rattle.typing_model.specs.Contexts.{Choice, Context, under}
use Rattle.type_nodes.specs.Nodes.{Node, IsNode, IsSound}
use Rattle.type_nodes.specs.Readings.{Types, IsReading}
use Rattle.level_unify.specs.Solutions.{Loose}
use Rattle.level_unify.specs.Instances.{is_bound}
use Rattle.typing_conditions.proofs.Own.{own_of}
use Rattle.typing_conditions.proofs.Steps.{refines_none, refines_then}
use Rattle.typing_conditions.specs.Locals.{Refines}
use Rattle.typing_conditions.specs.Sights.{Sight, Letters, AreGiven, AreNodes, SameAt}
use Rattle.typing_conditions.specs.Carrying.{Asks, AreHidden}
use Rattle.typing_conditions.proofs.Carried.{hidden_both}
use Rattle.typing_conditions.proofs.Hiding.{keeps_as, keeps_both}
use Rattle.binding_rows.specs.Outside.{AgreesOutside, Left, letters_left, AreLeft, StaysOutside, OnlyBetween, AreDecided}

-- what agrees with a state agreed before
pub agrees_earlier : {a b : Sight} {G H : Letters} {V : Types} {ch : Choice} → StaysOutside a G b H → AgreesOutside b H V ch → AgreesOutside a G V ch
agrees_earlier {V = V} {ch = ch} s g = record { recorded = λ i p m e. g.recorded i p m (s.recorded i p m e); known = λ i p m e. g.known i p m (s.recorded i p m e); given = s.given V ch g.given }

-- what items left is left where no more is bound
pub left_earlier : (old new : List Node) (ls : List Left) (V : Types) (ch : Choice) → ((v : ℕ) → is_bound old v ≡ true → is_bound new v ≡ true) → AreLeft new ls V ch → AreLeft old ls V ch
left_earlier old new [] V ch bounds h = tt
left_earlier old new (l ∷ ls) V ch bounds h = (record { letters = h.0.letters; written = h.0.written; others = λ k x e f v b. h.0.others k x e f v (bounds v b); fixed = h.0.fixed }, left_earlier old new ls V ch bounds h.1)

pub left_first : (nodes : List Node) (ls ms : List Left) (V : Types) (ch : Choice) → AreLeft nodes (ls ++ ms) V ch → AreLeft nodes ls V ch
left_first nodes [] ms V ch h = tt
left_first nodes (l ∷ ls) ms V ch h = (h.0, left_first nodes ls ms V ch h.1)

pub left_second : (nodes : List Node) (ls ms : List Left) (V : Types) (ch : Choice) → AreLeft nodes (ls ++ ms) V ch → AreLeft nodes ms V ch
left_second nodes [] ms V ch h = h
left_second nodes (l ∷ ls) ms V ch h = left_second nodes ls ms V ch h.1

pub append_assoc : {A : Type 0} (xs ys zs : List A) → (xs ++ ys) ++ zs ≡ xs ++ (ys ++ zs)
append_assoc [] ys zs = refl
append_assoc (x ∷ xs) ys zs = ap (λ us. x ∷ us) (append_assoc xs ys zs)

pub stays_both : {a b c : Sight} {G H K : Letters} → IsSound a.nodes → StaysOutside a G b H → StaysOutside b H c K → StaysOutside a G c K
stays_both {a} {b} {c} sound p q = record {
  sound = λ s. q.sound (p.sound s);
  loose = λ V h. p.loose V (q.loose V h);
  reads = λ V h. p.reads V (q.reads V h);
  refines = λ M own. let mid = own_of b.nodes (p.sound sound) in refines_then a.nodes b.nodes c.nodes mid.0 M mid.1 own (p.refines mid.0 mid.1) (q.refines M own);
  bounds = λ v h. q.bounds v (p.bounds v h);
  recorded = λ i k m e. q.recorded i k m (p.recorded i k m e);
  keeps = keeps_both p.keeps q.keeps;
  given = λ V ch h. p.given V ch (q.given V ch h);
  inside = λ i. q.inside (p.inside i);
  aloud = q.aloud ∙ p.aloud;
  level = q.level ∙ p.level;
  fixed = q.fixed ∙ p.fixed;
}

-- what several items left is what they left together
pub letters_both : (ls ms : List Left) → letters_left (ls ++ ms) ≡ letters_left ls ++ letters_left ms
letters_both [] ms = refl
letters_both (l ∷ ls) ms = ap (λ xs. l.letters ++ xs) (letters_both ls ms) ∙ sym (append_assoc l.letters (letters_left ls) (letters_left ms))

-- the letters that items left have their types further on, and so have those of the next ones
pub left_both : (ls ms : List Left) (nodes : List Node) (c : Sight) (ch : Choice) (V W : Types) → length nodes ≤ length c.nodes → SameAt nodes V W → AreNodes (letters_left ls) nodes × AreGiven (letters_left ls) V ch → AreHidden (letters_left ms) c W ch → AreHidden (letters_left (ls ++ ms)) c W ch
left_both ls ms nodes c ch V W longer same p q = subst (λ xs. AreHidden xs c W ch) (sym (letters_both ls ms)) (hidden_both (letters_left ls) (letters_left ms) nodes c ch V W longer same p q)

-- a choice that has the types that several items decide has them together
pub decided_both : (ls ms : List Left) (ch : Choice) → AreDecided ls ch → AreDecided ms ch → AreDecided (ls ++ ms) ch
decided_both [] ms ch p q = q
decided_both (l ∷ ls) ms ch p q = (p.0, decided_both ls ms ch p.1 q)

-- Items after others: what is asked next is what is asked in the context with the environment after those before, wherever what these ask is met as it was judged.
pub record IsNext (E : Choice → Environment) (rest further : Asks) (after : Context → Environment) (x : Context) : Type 0 where
  pub env : after x ≡ E x.chosen
  pub asks : rest x ≡ further (under (after x) x)

-- between items nothing changes that the definitions ask of
pub stays_between : {a b : Sight} {G : Letters} → OnlyBetween a b → StaysOutside a G b G
stays_between {a} {b} {G} only = record {
  sound = λ s. subst IsSound (sym only.nodes) s;
  loose = λ V h. subst (λ ns. Loose ns V) only.nodes h;
  reads = λ V h. subst (λ ns. IsReading ns V) only.nodes h;
  refines = λ M own. subst (λ ns. Refines ns b.nodes M) only.nodes (refines_none b.nodes M own);
  bounds = λ v h. subst (λ ns. is_bound ns v ≡ true) (sym only.nodes) h;
  recorded = λ i k m e. only.types i k ∙ e;
  keeps = keeps_as only.noted only.scopes only.types;
  given = λ V ch h. h;
  inside = λ i. record { recorded = λ j k m e. subst (λ ns. IsNode ns m) (sym only.nodes) (i.recorded j k m (sym (only.types j k) ∙ e)); given = subst (AreNodes G) (sym only.nodes) i.given };
  aloud = only.aloud;
  level = only.level;
  fixed = only.fixed;
}
