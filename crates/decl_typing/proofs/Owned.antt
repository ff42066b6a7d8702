-- A type of its own: what its calls do, one after the other.
use Rattle.std.proofs.Common.{◌≡◌, ◌∙◌, ◌<◌, ℕ, zero, suc, List, [], ◌∷◌, ◌++◌, length, Option, Some, None, refl, sym, ap, subst, append-nil}
use Rattle.std.specs.Prelude.{slice_get, slice_index_or}
use Rattle.std.specs.declared.vec.Vec.{Vec}
use Rattle.std.specs.declared.alloc.Global.{Global}
use Rattle.type_model.specs.Types.{Path, Typ}
use Rattle.type_model.specs.Types.{Typ as type}
use Rattle.signature_model.specs.Declarations.{Name, parameters_from}
use Rattle.typing_model.specs.Parts as parts
use Rattle.type_nodes.specs.Nodes.{IsNode, IsSound}
use Rattle.env_table.specs.declared.entries.Constructor.{Constructor}
use Rattle.env_table.specs.declared.entries.Entry.{Entry}
use Rattle.env_table.specs.declared.entries.Label.{Label}
use Rattle.env_table.specs.declared.entries.Shape.{Shape}
use Rattle.env_table.specs.declared.entries.Shape.TheVariants as shape
use Rattle.typing_state.specs.declared.parts.Parts.{Parts}
use Rattle.typing_state.specs.Goes.{Goes, OnlyStore, OnlyIndex}
use Rattle.typing_state.proofs.Going.{goes_trans}
use Rattle.typing_conditions.specs.Sights.{Sight}
use Rattle.typing_conditions.specs.Standing.{IsIn}
use Rattle.typing_conditions.specs.Declared.{with_parameters}
use Rattle.typing_conditions.specs.Frames.{Frame}
use Rattle.typing_conditions.specs.Locals.{IsPlain, ClosesAll}
use Rattle.typing_steps.specs.States.{is_aloud, sight}
use Rattle.operand_laws.specs.Operands.{number_of}
use Rattle.typing_rows.specs.Settled.{Before, Fixes}
use Rattle.typing_rows.proofs.DeclaredOrdered.{store_reports, index_reports}
use Rattle.typing_rows.proofs.Settling.{settled_none}
use Rattle.level_unify.specs.Generalising.{Generalised}
use Rattle.typing_conditions.proofs.Bindings.{generalised_closes}
use Rattle.declared_rows.specs.Assignments.{Assignment, Assigns, Assigned, Denotes, AssignedTo}
use Rattle.declared_rows.specs.Contracts.{AreParameters}
use Rattle.declared_rows.proofs.Going.{assigned_refl, assigned_then, denotes_on}
use Rattle.typing_rows.proofs.Noted.{noted_on}
use Rattle.declared_rows.proofs.Ordered.{index_still}
use Rattle.decl_groups.specs.declared.groups.DeclarationPart.{DeclarationPart}
use Rattle.decl_groups.specs.declared.groups.ConstructorPart.{ConstructorPart}
use Rattle.decl_groups.specs.declared.groups.LabelPart.{LabelPart}
use Rattle.decl_groups.specs.declared.groups.Told.{Told}
use Rattle.decl_groups.specs.declared.groups.Told.TheVariants.{Constructors, Labels}
use Rattle.decl_typing.specs.Parts.{AreMade, none_made, one_made, nameless, ReadsConstructors, shape_constructors}
use Rattle.decl_typing.specs.LabelParts.{AreLabels, no_labels, one_label, nameless_label, ReadsLabels, shape_labels}
use Rattle.decl_typing.specs.Parameters.{token_names, MakesParameters, MakesOwn, ClosesRoots, constructor_roots, label_roots, shape_roots}
use Rattle.decl_typing.specs.Owned.{IsOwnRight, AreOwnRights, IsVariant, IsRecord, ShapeSettled, ShapeMade, nothing_made, constructors_made, labels_made, told_in, ToldRead, ReadsTold, TypeMade, MakesType, ClosesType, MakesOwnRoot, RootClosed}
use Rattle.decl_typing.specs.Denoting.{raised}
use Rattle.decl_typing.proofs.Levels.{with_level, level_noted}

-- nothing is told
pub nothing_read : (a : Parts) (env : List Entry) (names : List Name) (ps : List ℕ) (owner : Typ) (e : ℕ) → ReadsTold a a env names ps None owner e shape.Opaque
nothing_read a env names ps owner e = λ parts aloud B around F arity U A inside noted denotes. record {
  settled = record { judged = []; reported = []; fixes = []; reports = sym (append-nil (sight a).reports); settled = settled_none };
  numbers = U;
  on = assigned_refl inside.assigns;
  made = nothing_made refl;
  noted = noted;
}

-- constructors are
pub constructors_read : (a b : Parts) (env : List Entry) (names : List Name) (nodes : List ℕ) (ps : Vec ConstructorPart Global) (owner : Typ) (e : ℕ) (z : Shape) → ReadsConstructors a b env names nodes ps.items owner e (shape_constructors z) → IsVariant z → ReadsTold a b env names nodes (Some (Constructors ps)) owner e z
constructors_read a b env names nodes ps owner e z read is = λ parts aloud B around F arity U A inside noted denotes.
    let x = read parts aloud B around F arity U A inside noted denotes in
    record {
      settled = record { judged = x.settled.judged; reported = x.settled.told; fixes = x.settled.fixes; reports = x.settled.reports; settled = x.settled.settled };
      numbers = x.numbers;
      on = x.on;
      made = constructors_made x.settled.types x.settled.gives x.made is;
      noted = x.noted;
    }

-- labels are
pub labels_read : (a b : Parts) (env : List Entry) (names : List Name) (nodes : List ℕ) (ps : Vec LabelPart Global) (owner : Typ) (e : ℕ) (z : Shape) → ReadsLabels a b env names nodes ps.items owner e (shape_labels z) → IsRecord z → ReadsTold a b env names nodes (Some (Labels ps)) owner e z
labels_read a b env names nodes ps owner e z read is = λ parts aloud B around F arity U A inside noted denotes.
    let x = read parts aloud B around F arity U A inside noted denotes in
    record {
      settled = record { judged = x.settled.judged; reported = x.settled.told; fixes = x.settled.fixes; reports = x.settled.reports; settled = x.settled.settled };
      numbers = x.numbers;
      on = x.on;
      made = labels_made x.settled.types x.settled.gives x.made is;
      noted = x.noted;
    }

-- nothing is reported until then
still_reports : (a b d e : Parts) → OnlyStore a b → OnlyStore b d → OnlyIndex d e → (sight e).reports ≡ (sight a).reports
still_reports a b d e first then last = index_reports d e last ∙ store_reports b d then ∙ store_reports a b first

-- what is settled since a state is so since an earlier one with the same reports
abbrev settled_since : {B : Before} {told : Option parts.Told} {a b d : Sight} → b.reports ≡ a.reports → ShapeSettled B told b d → ShapeSettled B told a d
settled_since same x = record { judged = x.judged; reported = x.reported; fixes = x.fixes; reports = x.reports ∙ ap (λ rs. rs ++ x.reported) same; settled = x.settled }

-- a type of its own over new parameters, before it is read what is told of it
record OwnSince (F : Frame) (k : ℕ) (U : List ℕ) (a e : Parts) (A : Assignment) (ps : List ℕ) (path : Path) (root body : ℕ) : Type 0 where
  pub on : Assigned F k U (sight a) (sight e) A
  pub are : AreParameters on.after ps
  pub of_body : Denotes on.after body (type.Con path (parameters_from 0 k))
  pub of_root : Denotes on.after root (with_parameters k (type.Con path (parameters_from 0 k)))

own_since : (a b d e : Parts) (ps : List ℕ) (path : Path) (root body : ℕ) → MakesParameters a b ps → MakesOwn b d ps path root body → OnlyIndex d e → (F : Frame) (U : List ℕ) (A : Assignment) → Assigns F 0 U (sight a) A → OwnSince F (length ps) U a e A ps path root body
own_since a b d e ps path root body parameters makes only F U A at =
    let x = parameters F U A at in
    let y = makes F (length ps) U x.on.after x.on.assigns x.are in
    let still = index_still d e only y.on.assigns in
    record {
      on = assigned_then x.on (assigned_then y.on still);
      are = λ k q there. denotes_on x.on.assigns (assigned_then y.on still) (x.are k q there);
      of_body = denotes_on y.on.assigns still y.of_body;
      of_root = denotes_on y.on.assigns still y.of_root;
    }

-- a type of its own is made: its parameters, its body with its root, the record of its right side, and what is told of it
pub type_made : (a b d e f : Parts) (env : List Entry) (p : DeclarationPart) (ps : List ℕ) (root body : ℕ) (z : Shape) → length ps ≡ length p.parameters.items → MakesParameters a b ps → OnlyStore a b → Goes a b → MakesOwn b d ps (number_of b.item p.number ∷ []) root body → OnlyStore b d → Goes b d →
    OnlyIndex d e → Goes d e → ((t : Typ) → ReadsTold e f env (token_names p.parameters.items) ps (told_in p.right) t body z) → MakesType a f env p root body z
type_made a b d e f env p ps root body z many parameters rest goes makes rest' goes' only noting read = λ right parts aloud B around F U A at types noted.
    let path = number_of a.item p.number ∷ [] in
    let x = own_since a b d e ps path root body parameters (subst (λ i. MakesOwn b d ps (number_of i p.number ∷ []) root body) goes.item makes) only F U A at in
    let whole : Goes a e = goes_trans a d e (goes_trans a b d goes goes') noting in
    let r = read (type.Con path (parameters_from 0 (length ps))) parts (ap is_aloud whole.telling ∙ aloud) B around F (length ps) U x.on.after (record { assigns = x.on.assigns; types = types; parameters = x.are }) (noted_on U noted whole) x.of_body in
    let told = subst (λ i. ToldRead B F (length ps) i e f x.on.after (type.Con path (parameters_from 0 (length ps))) (told_in p.right) z) whole.item r in
    subst (λ k. TypeMade B F k a f A path (told_in p.right) root body z) many (record {
      settled = settled_since (still_reports a b d e rest rest' only) told.settled;
      numbers = told.numbers;
      on = assigned_then x.on told.on;
      of_body = denotes_on x.on.assigns told.on x.of_body;
      of_root = denotes_on x.on.assigns told.on x.of_root;
      made = told.made;
      noted = told.noted;
    })

-- the roots of constructors, of labels and of a shape are known
constructors_known : {A : Assignment} {result : Typ} {ps : List ConstructorPart} {ts : List (Option Typ)} {ks : List Constructor} → AreMade A result ps ts ks → (j r : ℕ) → slice_get (constructor_roots ks) j ≡ Some r → IsIn A.nodes r
constructors_known none_made j r e = absurd (cc)
constructors_known {A} (one_made {k = k} s is given d more) zero r e = let f : k.root.0 ≡ r = cc in subst (IsIn A.nodes) (sym is.root ∙ f) d.known
constructors_known (one_made s is given d more) (suc j) r e = constructors_known more j r e
constructors_known (nameless none more) j r e = constructors_known more j r e

labels_known : {A : Assignment} {owner : Typ} {ps : List LabelPart} {ts : List Typ} {ls : List Label} → AreLabels A owner ps ts ls → (j r : ℕ) → slice_get (label_roots ls) j ≡ Some r → IsIn A.nodes r
labels_known no_labels j r e = absurd (cc)
labels_known {A} (one_label {l = l} s is d more) zero r e = let f : l.root.0 ≡ r = cc in subst (IsIn A.nodes) (sym is.root ∙ f) d.known
labels_known (one_label s is d more) (suc j) r e = labels_known more j r e
labels_known (nameless_label none more) j r e = labels_known more j r e

pub shape_known : {A : Assignment} {owner : Typ} {fixes : Fixes} {i : ℕ} {told : Option Told} (z : Shape) → ShapeMade A owner fixes i told z → (j r : ℕ) → slice_get (shape_roots z) j ≡ Some r → IsIn A.nodes r
shape_known shape.Opaque made j r e = absurd (cc)
shape_known (shape.Variant ks) (nothing_made is) j r e = absurd (cc)
shape_known (shape.Variant ks) (constructors_made types gives made is) j r e = constructors_known made j r e
shape_known (shape.Variant ks) (labels_made types gives made is) j r e = absurd is
shape_known (shape.Labels ls) (nothing_made is) j r e = absurd (cc)
shape_known (shape.Labels ls) (constructors_made types gives made is) j r e = absurd is
shape_known (shape.Labels ls) (labels_made types gives made is) j r e = labels_known made j r e

-- a type of its own is closed that was made one level further in
pub type_closed : (at read after : Parts) (l : ℕ) (env : List Entry) (p : DeclarationPart) (root body : ℕ) (z : Shape) → (at.level ≡ 0 → l ≡ 1) → MakesType (with_level at l) read env p root body z → ClosesRoots (with_level read at.level) after (root ∷ shape_roots z) → IsSound after.store.nodes → IsPlain after.store.nodes →
    OnlyStore (with_level read at.level) after → Goes (with_level read at.level) after → ClosesType at after env p root body z
type_closed at read after l env p root body z one makes closes sound plain rest goes = λ right parts aloud zero B around F U A assigns types noted.
    let x = subst (λ k. MakesType (with_level at k) read env p root body z) (one zero) makes right parts aloud B around F U A assigns types (level_noted at 1 U noted) in
    record {
      before = read;
      makes = x;
      reports = store_reports (with_level read at.level) after rest;
      closes = λ K own. subst (ClosesAll read.store.nodes after.store.nodes K (root ∷ shape_roots z)) zero (closes (λ k r e. inside x.on.assigns x.of_root x.made k r e) K own);
      sound = sound;
      plain = plain;
      level = rest.level;
      noted = noted_on x.numbers (level_noted read at.level x.numbers x.noted) goes;
    }
  where
    inside : {F : Frame} {arity i : ℕ} {U : List ℕ} {A : Assignment} {owner t : Typ} {fixes : Fixes} {told : Option Told} → Assigns F arity U (sight read) A → Denotes A root t → ShapeMade A owner fixes i told z → (k r : ℕ) → slice_get (root ∷ shape_roots z) k ≡ Some r → IsNode read.store.nodes r
    inside at d made zero r e = let f : root ≡ r = cc in subst (IsNode read.store.nodes) f (at.opens root d.known).inside
    inside at d made (suc k) r e = (at.opens r (shape_known z made k r e)).inside

-- the root of a type of its own over new parameters
pub own_root_made : (a b d : Parts) (p : DeclarationPart) (ps : List ℕ) (root body : ℕ) → length ps ≡ length p.parameters.items → MakesParameters a b ps → Goes a b → MakesOwn b d ps (number_of b.item p.number ∷ []) root body → MakesOwnRoot a d p root
own_root_made a b d p ps root body many parameters goes makes F U A at =
    let x = parameters F U A at in
    let y = makes F (length ps) U x.on.after x.on.assigns x.are in
    subst (λ k. AssignedTo F k U (sight a) (sight d) A root (with_parameters k (type.Con (number_of a.item p.number ∷ []) (parameters_from 0 k)))) many
    (subst (λ i. AssignedTo F (length ps) U (sight a) (sight d) A root (with_parameters (length ps) (type.Con (number_of i p.number ∷ []) (parameters_from 0 (length ps))))) goes.item (record { on = assigned_then x.on y.on; denotes = y.of_root }))

-- it is closed between items
pub own_root_closed : (at made after : Parts) (l : ℕ) (p : DeclarationPart) (root : ℕ) → (at.level ≡ 0 → l ≡ 1) → MakesOwnRoot (with_level at l) made p root → (IsNode made.store.nodes root → Generalised made.store.nodes after.store.nodes root at.level) → IsSound after.store.nodes → IsPlain after.store.nodes →
    OnlyStore (with_level made at.level) after → at.level ≡ 0 → (F : Frame) (U : List ℕ) (A : Assignment) → Assigns F 0 U (sight (raised at)) A → RootClosed F U at after A p root
own_root_closed at made after l p root one makes bound sound plain rest lowest F U A assigns =
    let x = subst (λ k. MakesOwnRoot (with_level at k) made p root) (one lowest) makes F U A assigns in
    record {
      before = made;
      to = x;
      closes = λ K own. generalised_closes made.store.nodes after.store.nodes K root 0 own (x.on.assigns.opens root x.denotes.known).inside (subst (Generalised made.store.nodes after.store.nodes root) lowest (bound (x.on.assigns.opens root x.denotes.known).inside));
      sound = sound;
      plain = plain;
      level = rest.level;
    }

-- one of some declarations, none of which is another type
pub own_there : (ps : List DeclarationPart) (k : ℕ) (p : DeclarationPart) → k < length ps → p ≡ slice_index_or ps k p → AreOwnRights ps → IsOwnRight p.right
own_there ps k p lt here own = subst (λ q. IsOwnRight q.right) (sym here) (own k p lt)
