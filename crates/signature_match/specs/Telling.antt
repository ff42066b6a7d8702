-- What a match tells: the first component that fails, by the newest actual component of its name, and the readings of the types at
-- which it is so.
use Rattle.std.specs.Prelude.{◌≡◌, ◌≢◌, ℕ, ◌+◌, Bool, false, List, [], ◌∷◌, map, Option, Some, None}
use Rattle.std.specs.Option.{is_none}
use Rattle.text_terms.specs.Bytes.{str_bytes}
use Rattle.type_terms.specs.declared.types.NodeRef.{NodeRef}
use Rattle.type_nodes.specs.Nodes.{Node}
use Rattle.signature_model.specs.Failing as rules
use Rattle.signature_model.specs.Matching.{new_number}
use Rattle.env_table.specs.declared.entries.Constructor.{Constructor}
use Rattle.env_table.specs.declared.entries.Declaration.{Declaration}
use Rattle.env_table.specs.declared.entries.Entry.{Entry}
use Rattle.env_table.specs.declared.entries.Components.{out-Components}
use Rattle.env_table.specs.declared.entries.Sig.{Sig, out-Sig}
use Rattle.env_table.specs.declared.entries.Sig.TheOpen.{Sig-F}
use Rattle.env_table.specs.declared.entries.Template.{Template}
use Rattle.env_table.specs.declared.entries.What.{What}
use Rattle.env_table.specs.declared.entries.Components.{Components}
use Rattle.sig_template.specs.Ways.{sig_of}
use Rattle.sig_template.specs.Changed.{made_of}
use Rattle.signature_match.specs.Blames.{here, unless, MayFail}
use Rattle.signature_match.specs.Newest.{value_in, type_in, exception_in, module_in, module_type_in, newest_value, newest_type, newest_exception, newest_module, newest_module_type}
use Rattle.signature_match.specs.Shapes.{TypeJudged, ExceptionJudged}
use Rattle.signature_match.specs.Values.{MeetsValue}
use Rattle.signature_match.specs.Comparing.{ComparesDeclarations, ComparesExceptions}
use Rattle.signature_match.specs.Wanting.{IsWanted, IsRenewed, AreBodies}

-- the forms of signatures: a structure with its components in order, and a functor with its parameter and its body
pub data Form : Type 0 where
  a_structure : List Entry → Form
  a_functor : (parameter body : Template) → Form
  a_hole : Form

abbrev pub form_by : Sig-F Sig What Components Entry Template → Form
form_by (Sig-F.Structure c) = a_structure (map (λ r. r.value) (out-Components c).entries.items)
form_by (Sig-F.Functor p b) = a_functor p.value b.value
form_by Sig-F.Hole = a_hole

abbrev pub form_of : Sig → Form
form_of s = form_by (out-Sig s)

-- a component that is absent, and the store is as before
abbrev pub TellsAbsent : (old new : List Node) → Option rules.Blame → Type 0
TellsAbsent old new told = (told ≡ here rules.Absent) × (new ≡ old)

-- a wanted value by the newest actual one: it is met at the readings at which the schemes agree
abbrev pub TellsValue : (old new : List Node) → Option NodeRef → NodeRef → Option rules.Blame → Type 0
TellsValue old new None wanted told = TellsAbsent old new told
TellsValue old new (Some a) wanted told = MayFail rules.ValueDiffers told × MeetsValue old new a wanted told

-- the readings at which a wanted type is met by an actual one: where their numbers of parameters differ the store is as before
pub record JudgesType (old new : List Node) (actual wanted : Declaration) (told : Option rules.Blame) : Type 0 where
  pub arity : actual.arity ≢ wanted.arity → new ≡ old
  pub compared : actual.arity ≡ wanted.arity → ComparesDeclarations old new actual wanted (is_none told)

-- a wanted type by the newest actual one
abbrev pub TellsType : (old new : List Node) → Option Declaration → Declaration → Option rules.Blame → Type 0
TellsType old new None wanted told = TellsAbsent old new told
TellsType old new (Some a) wanted told = TypeJudged a wanted told × JudgesType old new a wanted told

-- the readings at which a wanted exception is met by an actual one
abbrev pub JudgesException : (old new : List Node) → (actual wanted : Constructor) → Option rules.Blame → Type 0
JudgesException old new actual wanted told = ComparesExceptions old new actual wanted (is_none told)

-- a wanted exception by the newest actual one
abbrev pub TellsException : (old new : List Node) → Option Constructor → Constructor → Option rules.Blame → Type 0
TellsException old new None wanted told = TellsAbsent old new told
TellsException old new (Some a) wanted told = ExceptionJudged a wanted told × JudgesException old new a wanted told

mutual
  -- what an actual signature against a wanted one tells, with the nodes before and after; k functors stand round it
  pub data Tells : (k : ℕ) → (old new : List Node) → (actual wanted : Sig) → Option rules.Blame → Type 0 where
    from_hole : {k : ℕ} {old new : List Node} {A W : Sig} → new ≡ old → form_of A ≡ a_hole → Tells k old new A W None
    to_hole : {k : ℕ} {old new : List Node} {A W : Sig} → new ≡ old → form_of W ≡ a_hole → Tells k old new A W None
    structures : {k : ℕ} {old new : List Node} {A W : Sig} (xs es : List Entry) {told : Option rules.Blame} → form_of A ≡ a_structure xs → form_of W ≡ a_structure es →
        TellsFirst k old new A es told → Tells k old new A W told
    functors : {k : ℕ} {old new : List Node} {A W : Sig} (P B Q C : Template) {met : Bool} → form_of A ≡ a_functor P B → form_of W ≡ a_functor Q C →
        TellsFunctors k old new P B Q C met → Tells k old new A W (unless met rules.KindDiffers)
    for_functor : {k : ℕ} {old new : List Node} {A W : Sig} (xs : List Entry) {Q C : Template} → new ≡ old → form_of A ≡ a_structure xs → form_of W ≡ a_functor Q C →
        Tells k old new A W (here rules.KindDiffers)
    for_structure : {k : ℕ} {old new : List Node} {A W : Sig} {P B : Template} (es : List Entry) → new ≡ old → form_of A ≡ a_functor P B → form_of W ≡ a_structure es →
        Tells k old new A W (here rules.KindDiffers)

  -- an actual signature against what a template wants of it
  pub data TellsWanted : (k : ℕ) → (old new : List Node) → Sig → Template → Option rules.Blame → Type 0 where
    wants : {k : ℕ} {old new : List Node} {A : Sig} {t : Template} {told : Option rules.Blame} (mid : List Node) (s : Sig) → IsWanted old mid A t s →
        Tells k mid new A s told → TellsWanted k old new A t told

  -- the first of several wanted components that fails; each begins with the nodes that the one before leaves
  pub data TellsFirst : (k : ℕ) → (old new : List Node) → Sig → List Entry → Option rules.Blame → Type 0 where
    all_met : {k : ℕ} {old new : List Node} {A : Sig} → new ≡ old → TellsFirst k old new A [] None
    fails : {k : ℕ} {old new : List Node} {A : Sig} {e : Entry} {es : List Entry} (b : rules.Blame) → TellsOne k old new A e (Some b) →
        TellsFirst k old new A (e ∷ es) (Some (rules.inside (str_bytes e.name) b))
    met : {k : ℕ} {old new : List Node} {A : Sig} {e : Entry} {es : List Entry} {told : Option rules.Blame} (mid : List Node) → TellsOne k old mid A e None →
        TellsFirst k mid new A es told → TellsFirst k old new A (e ∷ es) told

  -- one wanted component, where a path begins inside of it; constructors and labels are asked with their type
  pub data TellsOne : (k : ℕ) → (old new : List Node) → Sig → Entry → Option rules.Blame → Type 0 where
    value : {k : ℕ} {old new : List Node} {A : Sig} {e : Entry} {told : Option rules.Blame} (n : NodeRef) → value_in e ≡ Some n →
        TellsValue old new (newest_value (str_bytes e.name) A) n told → TellsOne k old new A e told
    type_name : {k : ℕ} {old new : List Node} {A : Sig} {e : Entry} {told : Option rules.Blame} (d : Declaration) → type_in e ≡ Some d →
        TellsType old new (newest_type (str_bytes e.name) A) d told → TellsOne k old new A e told
    exception : {k : ℕ} {old new : List Node} {A : Sig} {e : Entry} {told : Option rules.Blame} (c : Constructor) → exception_in e ≡ Some c →
        TellsException old new (newest_exception (str_bytes e.name) A) c told → TellsOne k old new A e told
    no_module : {k : ℕ} {old new : List Node} {A : Sig} {e : Entry} {told : Option rules.Blame} (s : Sig) → module_in e ≡ Some s → newest_module (str_bytes e.name) A ≡ None →
        TellsAbsent old new told → TellsOne k old new A e told
    «module» : {k : ℕ} {old new : List Node} {A : Sig} {e : Entry} {told : Option rules.Blame} (a s : Sig) → module_in e ≡ Some s → newest_module (str_bytes e.name) A ≡ Some a →
        Tells k old new a s told → TellsOne k old new A e told
    no_module_type : {k : ℕ} {old new : List Node} {A : Sig} {e : Entry} {told : Option rules.Blame} (t : Template) → module_type_in e ≡ Some t →
        newest_module_type (str_bytes e.name) A ≡ None → TellsAbsent old new told → TellsOne k old new A e told
    module_type : {k : ℕ} {old new : List Node} {A : Sig} {e : Entry} {told : Option rules.Blame} (a t : Template) → module_type_in e ≡ Some t →
        newest_module_type (str_bytes e.name) A ≡ Some a → TellsBoth k old new a t told → TellsOne k old new A e told
    other : {k : ℕ} {old new : List Node} {A : Sig} {e : Entry} → new ≡ old → value_in e ≡ None → type_in e ≡ None → exception_in e ≡ None → module_in e ≡ None → module_type_in e ≡ None →
        TellsOne k old new A e None

  -- two module types against each other, the actual one first
  pub data TellsBoth : (k : ℕ) → (old new : List Node) → (actual wanted : Template) → Option rules.Blame → Type 0 where
    one_side : {k : ℕ} {old new : List Node} {a t : Template} (b : rules.Blame) → TellsWanted k old new (sig_of a) t (Some b) → TellsBoth k old new a t (here rules.ModuleTypeDiffers)
    both_sides : {k : ℕ} {old new : List Node} {a t : Template} (mid : List Node) {told : Option rules.Blame} → TellsWanted k old mid (sig_of a) t None →
        TellsWanted k mid new (sig_of t) a told → TellsBoth k old new a t (unless (is_none told) rules.ModuleTypeDiffers)

  -- whether functors are met: a wanted parameter Q with new origins against the actual P; where that is met the bodies C and B decide
  pub data TellsFunctors : (k : ℕ) → (old new : List Node) → (P B Q C : Template) → Bool → Type 0 where
    parameter_differs : {k : ℕ} {old new : List Node} {P B Q C : Template} (b : rules.Blame) (mid : List Node) (argument : Template) →
        IsRenewed old mid (made_of Q) (new_number k) (sig_of Q) (sig_of argument) → TellsWanted (k + 1) mid new (sig_of argument) P (Some b) → TellsFunctors k old new P B Q C false
    by_bodies : {k : ℕ} {old new : List Node} {P B Q C : Template} (mid left between : List Node) (argument : Template) (applied : Sig) (renewed : Template) {told : Option rules.Blame} →
        IsRenewed old mid (made_of Q) (new_number k) (sig_of Q) (sig_of argument) → TellsWanted (k + 1) mid left (sig_of argument) P None →
        AreBodies left between (new_number k) (sig_of argument) P B Q C applied renewed → TellsWanted (k + 1) between new applied renewed told → TellsFunctors k old new P B Q C (is_none told)

-- the first component of a signature that fails, where a path begins with its name
abbrev pub TellsEntry : (k : ℕ) → (old new : List Node) → Sig → Entry → Option rules.Blame → Type 0
TellsEntry k old new A e None = TellsOne k old new A e None
TellsEntry k old new A e (Some b) = (inner : rules.Blame) × (b ≡ rules.inside (str_bytes e.name) inner) × TellsOne k old new A e (Some inner)

-- whether an actual parameter is met by the wanted one with a number in front of its origins, which is the argument
pub record TellsParameter (k number : ℕ) (old new : List Node) (actual wanted argument : Template) (met : Bool) : Type 0 where
  pub between : List Node
  pub told : Option rules.Blame
  pub renews : IsRenewed old between (made_of wanted) number (sig_of wanted) (sig_of argument)
  pub tells : TellsWanted k between new (sig_of argument) actual told
  pub is : met ≡ is_none told

-- what a whole match tells, with the nodes that it leaves; where it is met, they are those after
pub record TellsMatch (old new : List Node) (actual : Sig) (wanted : Template) (told : Option rules.Blame) : Type 0 where
  pub left : List Node
  pub tells : TellsWanted 0 old left actual wanted told
  pub leaves : told ≡ None → new ≡ left
