-- Module types against each other, and the two sides of functors.
use Rattle.std.proofs.Common.{◌≡◌, ℕ, ◌+◌, Bool, true, false, not, List, Option, Some, None, option_map, refl, sym, ◌∙◌, ap, subst}
use Rattle.std.specs.Option.{is_some, is_none}
use Rattle.type_nodes.specs.Nodes.{Node}
use Rattle.signature_model.specs.Failing as rules
use Rattle.signature_model.specs.Matching.{new_number}
use Rattle.env_table.specs.declared.entries.Sig.{Sig}
use Rattle.env_table.specs.declared.entries.Template.{Template}
use Rattle.sig_template.specs.Ways.{sig_of}
use Rattle.signature_match.specs.declared.causes.Mismatch.{Mismatch}
use Rattle.signature_match.specs.Blames.{blame_of, here, unless}
use Rattle.signature_match.specs.Wanting.{AreBodies}
use Rattle.signature_match.specs.Telling.{TellsWanted, TellsBoth, TellsFunctors, TellsParameter, one_side, both_sides, parameter_differs, by_bodies}

-- nothing is told as an answer says that nothing failed
none_told : (m : Option Mismatch) (met : Bool) → is_some m ≡ not met → is_none (option_map blame_of m) ≡ met
none_told None true e = refl
none_told None false e = cc
none_told (Some m) true e = cc
none_told (Some m) false e = refl

-- a module type that isn't met by the other
pub one_fails : (k : ℕ) (old new : List Node) (a t : Template) (m : Option Mismatch) (told : Option rules.Blame) → is_some m ≡ true → TellsWanted k old new (sig_of a) t (option_map blame_of m) →
    told ≡ here rules.ModuleTypeDiffers → TellsBoth k old new a t told
one_fails k old new a t None told some one says = cc
one_fails k old new a t (Some m) told some one says = subst (TellsBoth k old new a t) (sym says) (one_side (blame_of m) one)

-- one that is met, and then the other decides
pub other_decides : (k : ℕ) (old mid new : List Node) (a t : Template) (m n : Option Mismatch) (met : Bool) (told : Option rules.Blame) → is_some m ≡ false →
    TellsWanted k old mid (sig_of a) t (option_map blame_of m) → TellsWanted k mid new (sig_of t) a (option_map blame_of n) → is_some n ≡ not met → told ≡ unless met rules.ModuleTypeDiffers →
    TellsBoth k old new a t told
other_decides k old mid new a t (Some m) n met told none one other is says = cc
other_decides k old mid new a t None n met told none one other is says =
    subst (TellsBoth k old new a t) (ap (λ r. unless r rules.ModuleTypeDiffers) (none_told n met is) ∙ sym says) (both_sides mid one other)

-- what a parameter tells, by other names
pub parameter_as : (k inner number : ℕ) (old new : List Node) (P P' Q Q' argument : Template) (met : Bool) → inner ≡ k + 1 → number ≡ new_number k → P' ≡ P → Q' ≡ Q →
    TellsParameter inner number old new P' Q' argument met → TellsParameter (k + 1) (new_number k) old new P Q argument met
parameter_as k inner number old new P P' Q Q' argument met round is one other p =
    subst (λ x. TellsParameter x (new_number k) old new P Q argument met) round
    (subst (λ x. TellsParameter inner x old new P Q argument met) is
    (subst (λ x. TellsParameter inner number old new x Q argument met) one (subst (λ x. TellsParameter inner number old new P' x argument met) other p)))

-- functors whose parameters don't match
pub parameter_fails : (k : ℕ) (old new : List Node) (P B Q C argument : Template) (met : Bool) → TellsParameter (k + 1) (new_number k) old new P Q argument met → met ≡ false → TellsFunctors k old new P B Q C false
parameter_fails k old new P B Q C argument met p fails = by_told p.told refl
  where
    by_told : (told : Option rules.Blame) → p.told ≡ told → TellsFunctors k old new P B Q C false
    by_told None e = absurd (let x : true ≡ false = sym (ap is_none e) ∙ sym p.is ∙ fails in cc)
    by_told (Some b) e = parameter_differs b p.between argument p.renews (subst (TellsWanted (k + 1) p.between new (sig_of argument) P) e p.tells)

-- functors whose parameters match
by_both : (k : ℕ) (old left between new : List Node) (P B Q C argument : Template) (met : Bool) (applied : Sig) (renewed : Template) (told : Option rules.Blame) →
    TellsParameter (k + 1) (new_number k) old left P Q argument met → met ≡ true → AreBodies left between (new_number k) (sig_of argument) P B Q C applied renewed →
    TellsWanted (k + 1) between new applied renewed told → TellsFunctors k old new P B Q C (is_none told)
by_both k old left between new P B Q C argument met applied renewed told p meets are bodies = by_told p.told refl
  where
    by_told : (parameter : Option rules.Blame) → p.told ≡ parameter → TellsFunctors k old new P B Q C (is_none told)
    by_told (Some b) e = absurd (let x : false ≡ true = sym (ap is_none e) ∙ sym p.is ∙ meets in cc)
    by_told None e = by_bodies p.between left between argument applied renewed p.renews (subst (TellsWanted (k + 1) p.between left (sig_of argument) P) e p.tells) are bodies

-- the same, by other names
pub bodies_decide : (k inner number : ℕ) (old left between new : List Node) (P B Q C argument : Template) (met : Bool) (from into applied : Sig) (renewed : Template) (m : Option Mismatch) (answer : Bool) →
    inner ≡ k + 1 → number ≡ new_number k → TellsParameter (k + 1) (new_number k) old left P Q argument met → met ≡ true → from ≡ sig_of argument →
    AreBodies left between number from P B Q C applied renewed → into ≡ applied → TellsWanted inner between new into renewed (option_map blame_of m) → is_some m ≡ not answer →
    TellsFunctors k old new P B Q C answer
bodies_decide k inner number old left between new P B Q C argument met from into applied renewed m answer round is p meets own are same bodies says =
    subst (TellsFunctors k old new P B Q C) (none_told m answer says)
    (by_both k old left between new P B Q C argument met applied renewed (option_map blame_of m) p meets
    (subst (λ n. AreBodies left between n (sig_of argument) P B Q C applied renewed) is (subst (λ s. AreBodies left between number s P B Q C applied renewed) own are))
    (subst (λ n. TellsWanted n between new applied renewed (option_map blame_of m)) round (subst (λ s. TellsWanted inner between new s renewed (option_map blame_of m)) same bodies)))
