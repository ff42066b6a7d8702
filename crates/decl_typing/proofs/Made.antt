-- What constructors that are read denote, one after the other.
use Rattle.std.proofs.Common.{◌≡◌, ◌∙◌, ◌+◌, ◌<◌, ℕ, true, List, [], ◌∷◌, ◌++◌, length, take, drop, Option, Some, None, option_map, refl, sym, ap, subst}
use Rattle.std.specs.Prelude.{slice_index_or}
use Rattle.std.proofs.lemmas.List.{take_more}
use Rattle.type_model.specs.Types.{Typ}
use Rattle.signature_model.specs.Declarations.{Name}
use Rattle.signature_model.specs.Records.{is_some}
use Rattle.row_parts.specs.Numbered.{operand_view}
use Rattle.operand_laws.specs.Operands.{type_of}
use Rattle.typing_model.specs.Parts.{ConstructorPart}
use Rattle.env_table.specs.declared.entries.Constructor.{Constructor}
use Rattle.env_table.specs.declared.entries.Entry.{Entry}
use Rattle.typing_state.specs.declared.parts.Parts.{Parts}
use Rattle.typing_state.specs.Goes.{Goes, OnlyFaults}
use Rattle.typing_conditions.specs.Declared.{building}
use Rattle.typing_conditions.specs.Frames.{Frame}
use Rattle.typing_conditions.specs.Sights.{Sight}
use Rattle.typing_steps.specs.States.{is_aloud, sight, written_in}
use Rattle.typing_rows.specs.Settled.{Before, Around, behind}
use Rattle.declared_rows.specs.Assignments.{Assignment, Assigns, Assigned, Denotes}
use Rattle.declared_rows.specs.Contracts.{Inside}
use Rattle.declared_rows.proofs.Going.{assigned_refl, assigned_then, assigned_still, denotes_on}
use Rattle.typing_rows.proofs.Noted.{noted_on}
use Rattle.declared_rows.proofs.Ordered.{inside_on}
use Rattle.decl_groups.specs.declared.groups.ConstructorPart.{ConstructorPart as CodePart}
use Rattle.decl_typing.specs.Settling.{constructor_as, constructors_as, HasOperand, SettlesNames}
use Rattle.decl_typing.specs.Parts.{ConstructorIf, ReadsConstructor, ReadsConstructors, ReadsFirst, AreMade, none_made, one_made, nameless, FirstDenoted}
use Rattle.decl_typing.proofs.Constructors.{none_read, one_read, all_constructors, has_there, left_there}

-- constructors that were made denote their types later on
pub made_on : {F : Frame} {arity arity' : ℕ} {U U' : List ℕ} {a b : Sight} {A : Assignment} {result : Typ} {ps : List CodePart} {ts : List (Option Typ)} {ks : List Constructor} → Assigns F arity' U' a A → (x : Assigned F arity U a b A) → AreMade A result ps ts ks → AreMade x.after result ps ts ks
made_on at x none_made = none_made
made_on at x (one_made r is given d more) = one_made r is given (denotes_on at x d) (made_on at x more)
made_on at x (nameless none more) = nameless none (made_on at x more)

-- a constructor that may be made
abbrev pub listed : Option Constructor → List Constructor
listed None = []
listed (Some k) = k ∷ []

-- what is there is there as it is read
pub there_as_well : {X Y : Type 0} (f : X → Y) (o : Option X) → is_some (option_map f o) ≡ is_some o
there_as_well f None = refl
there_as_well f (Some x) = refl

-- one more
pub made_more : {A : Assignment} {result : Typ} {ps : List CodePart} {ts : List (Option Typ)} {ks : List Constructor} (p : CodePart) (t : Option Typ) (o : Option Constructor) (r : ℕ) → ConstructorIf p r o → is_some t ≡ is_some p.argument → Denotes A r (building result t) → AreMade A result ps ts ks → AreMade A result (ps ++ p ∷ []) (ts ++ t ∷ []) (ks ++ listed o)
made_more p t None r none given d none_made = nameless none none_made
made_more p t (Some k) r is given d none_made = one_made r is given d none_made
made_more p t o r is given d (one_made s was had e more) = one_made s was had e (made_more p t o r is given d more)
made_more p t o r is given d (nameless none more) = nameless none (made_more p t o r is given d more)

-- one constructor more is read
pub one_denoted : {B : Before} {F : Frame} {arity : ℕ} {A : Assignment} {result : Typ} {all left : List ConstructorPart} {ps : List CodePart} {ks : List Constructor} (a b d : Parts) (env : List Entry) (names : List Name) (nodes : List ℕ) (x : CodePart) (e : ℕ) (o : Option Constructor) {U : List ℕ} →
    is_aloud b.telling ≡ true → Around env names B → Inside F arity U a A B.named env nodes → Denotes A e result → HasOperand x → FirstDenoted B F arity a b A result (all) (constructor_as b.item x ∷ left) ps ks → ReadsConstructor b d env names nodes x result e o →
    FirstDenoted B F arity a d A result all left (ps ++ x ∷ []) (ks ++ listed o)
one_denoted {B} {F} {arity} a b d env names nodes x e o aloud around inside denotes has f r =
    let y = r.read has aloud (behind B f.settled.judged f.settled.fixes) around F arity f.numbers f.on.after (inside_on inside f.on) f.noted (denotes_on inside.assigns f.on denotes) in
    record {
      settled = one_read (constructor_as b.item x) f.settled y.settled;
      numbers = y.numbers;
      on = assigned_then f.on y.to.on;
      made = made_more x y.settled.type o r.root r.made (y.settled.given ∙ there_as_well (type_of b.item) (option_map operand_view x.argument) ∙ there_as_well operand_view x.argument) y.to.denotes (made_on f.on.assigns y.to.on f.made);
      noted = y.noted;
    }

-- none is read yet
pub none_denoted : (a : Parts) (env : List Entry) (names : List Name) (ps : List ℕ) (parts : List CodePart) (result : Typ) (e : ℕ) (ks : List Constructor) → ks ≡ [] → ReadsFirst a a env names ps parts parts [] result e ks
none_denoted a env names ps parts result e ks none = subst (ReadsFirst a a env names ps parts parts [] result e) (sym none) (λ all aloud B around F arity U A inside noted denotes. record {
  settled = none_read (constructors_as a.item parts);
  numbers = U;
  on = assigned_refl inside.assigns;
  made = none_made;
  noted = noted;
})

-- one more of the loop
pub each_denoted : (a b d : Parts) (env : List Entry) (names : List Name) (ps : List ℕ) (parts : List CodePart) (k : ℕ) (x : CodePart) (result : Typ) (e : ℕ) (ks : List Constructor) (o : Option Constructor) → k < length parts → x ≡ slice_index_or parts k x → ReadsFirst a b env names ps parts (drop k parts) (take k parts) result e ks → Goes a b →
    ReadsConstructor b d env names ps x result e o → ReadsFirst a d env names ps parts (drop (k + 1) parts) (take (k + 1) parts) result e (ks ++ listed o)
each_denoted a b d env names ps parts k x result e ks o lt here first goes r = λ all aloud B around F arity U A inside noted denotes.
    let f = subst (λ left. FirstDenoted B F arity a b A result (constructors_as a.item parts) left (take k parts) ks) (left_there a.item parts k x lt here ∙ ap (λ i. constructor_as i x ∷ constructors_as a.item (drop (k + 1) parts)) (sym goes.item)) (first all aloud B around F arity U A inside noted denotes) in
    subst (λ done. FirstDenoted B F arity a d A result (constructors_as a.item parts) (constructors_as a.item (drop (k + 1) parts)) done (ks ++ listed o)) (sym (take_more parts k x lt ∙ ap (λ y. take k parts ++ y ∷ []) (sym here)))
    (one_denoted a b d env names ps x e o (ap is_aloud goes.telling ∙ aloud) around inside denotes (has_there parts k x lt here all) f r)

-- what changes the faults alone leaves an assignment
abbrev pub faults_still : {F : Frame} {arity : ℕ} {U : List ℕ} {A : Assignment} (b d : Parts) → OnlyFaults b d → Assigns F arity U (sight b) A → Assigned F arity U (sight b) (sight d) A
faults_still b d rest at = assigned_still (ap (λ s. s.nodes) rest.store) rest.level (λ y k e. ap (λ w. written_in w y) rest.written ∙ e) at

-- all of them, and then their names
pub all_denoted : (a b d : Parts) (env : List Entry) (names : List Name) (ps : List ℕ) (parts : List CodePart) (result : Typ) (e : ℕ) (ks : List Constructor) → Goes a b → OnlyFaults b d → Goes b d → SettlesNames b d (constructors_as b.item parts) → ReadsFirst a b env names ps parts [] parts result e ks → ReadsConstructors a d env names ps parts result e ks
all_denoted a b d env names ps parts result e ks goes rest goes' judged first = λ all aloud B around F arity U A inside noted denotes.
    let f = first all aloud B around F arity U A inside noted denotes in
    let y = subst (λ i. SettlesNames b d (constructors_as i parts)) goes.item judged in
    let still = faults_still b d rest f.on.assigns in
    record {
      settled = all_constructors f.settled (y (ap is_aloud goes.telling ∙ aloud) (behind B f.settled.judged f.settled.fixes));
      numbers = f.numbers;
      on = assigned_then f.on still;
      made = made_on f.on.assigns still f.made;
      noted = noted_on f.numbers f.noted goes';
    }
