-- Which types origins get, one after the other.
use Rattle.std.proofs.Common.{◌≡◌, ◌↔◌, ℕ, ◌+◌, ◌<◌, ◌≤◌, length, get_or, take, drop, Bool, true, false, ◌&&◌, ◌||◌, List, [], ◌∷◌, ◌++◌, Option, Some, None, refl, sym, ◌∙◌, ap, subst, arith}
use Rattle.std.specs.Prelude.{if◌then◌else◌, IsTrue, Result, Ok, Err, IfOk, OnOk}
use Rattle.std.specs.declared.alloc.AllocError.{AllocError}
use Rattle.std.specs.List.{AllZip}
use Rattle.std.proofs.lemmas.List.{take_more, drop_more, drop_all}
use Rattle.std.specs.Option.{option_or}
use Rattle.std.specs.Cmp.Lexicographic.{same_text}
use Rattle.text_terms.specs.Bytes.{str_bytes}
use Rattle.type_model.specs.Types.{Path}
use Rattle.type_model.specs.Origins.{same_path}
use Rattle.type_terms.specs.Views.{path_of}
use Rattle.type_terms.specs.declared.types.Origin.{Origin}
use Rattle.type_terms.specs.declared.types.NodeRef.{NodeRef}
use Rattle.type_nodes.specs.Nodes.{Node, IsNode}
use Rattle.level_unify.specs.Copies.{Extends}
use Rattle.scheme_match.specs.Unknown.{HasUnknown}
use Rattle.signature_model.specs.Changes.{among}
use Rattle.signature_model.specs.Declarations.{Name}
use Rattle.std.specs.declared.rc.Rc.{Rc}
use Rattle.std.specs.declared.alloc.Global.{Global}
use Rattle.env_table.specs.declared.entries.Declaration.{Declaration}
use Rattle.env_table.specs.declared.entries.Entry.{Entry}
use Rattle.env_table.specs.declared.entries.What.{out-What}
use Rattle.env_table.specs.declared.entries.Sig.{Sig}
use Rattle.env_table.specs.declared.entries.Sig as sigs
use Rattle.env_table.specs.declared.entries.Sig.TheVariants as sig
use Rattle.env_table.specs.declared.entries.Components.{Components, out-Components}
use Rattle.env_table.specs.declared.entries.Template.{Template}
use Rattle.env_table.specs.Views.{names_in, inside_sig}
use Rattle.type_reading.specs.declared.changes.Real.{Real}
use Rattle.type_reading.specs.declared.changes.Changes.{Changes}
use Rattle.type_reading.specs.declared.changes.Put.TheVariants as put
use Rattle.type_reading.specs.Copying.{paths_of, put_of}
use Rattle.sig_template.specs.declared.realising.Realised.{Realised}
use Rattle.sig_template.specs.Abstract.{made_here}
use Rattle.sig_template.specs.Structures.{entries_of}
use Rattle.sig_template.specs.Ways.{sig_of, components_of}
use Rattle.sig_template.specs.Changed.{made_of}
use Rattle.sig_template.specs.Realising.{Side, nothing, known, unknown_module, Given, a_declaration, an_unknown, declared_by, module_by, side_of, inner_side, given_for, newest_declared, is_own, given_by, no_structure, in_structure, FindsIn, none_left, by_type, by_module, by_other, GetsBy, real_of, IsReal, Realises}
use Rattle.sig_template.specs.Finding.{made_by, IsBefore, AddsReal, IsUnknownFor, Gives, Finding, FindingAll}
use Rattle.sig_template.proofs.Staying.{unknown_before}
use Rattle.sig_template.proofs.Putting.{has_real}
use Rattle.sig_template.proofs.Within.{of_structure}
use Rattle.type_reading.proofs.Extending.{extends_trans}

or_none : {A : Type 0} (x : Option A) → option_or x None ≡ x
or_none None = refl
or_none (Some a) = refl

or_assoc : {A : Type 0} (x y z : Option A) → option_or (option_or x y) z ≡ option_or x (option_or y z)
or_assoc None y z = refl
or_assoc (Some a) y z = refl

if_none : {A : Type 0} (t : Bool) (x : Option A) → x ≡ None → (if t then x else None) ≡ None
if_none true x none = none
if_none false x none = refl

real_of_more : (o : Path) (rs : List Real) (r : Real) → real_of o (rs ++ r ∷ []) ≡ option_or (real_of o rs) (if same_path o r.origin.path.items then Some r else None)
real_of_more o [] r = refl
real_of_more o (x ∷ rs) r =
    elim (same_path o x.origin.path.items) as (λ t. (if t then Some x else real_of o (rs ++ r ∷ [])) ≡ option_or (if t then Some x else real_of o rs) (if same_path o r.origin.path.items then Some r else None)) [
      | true ↦ refl
      | false ↦ real_of_more o rs r
    ]

-- what a call gives that puts an unknown type behind the others
pub pushed_unknown : (r : Result (Unit {0}) AllocError) (o : Path) (old new : List Real) (x : Real) → path_of x.origin ≡ o → x.arity ≡ 0 → OnOk r (new ≡ old ++ x ∷ []) →
    OnOk r ((nodes : List Node) → AddsReal nodes an_unknown o old new)
pushed_unknown (Ok u) o old new x origin arity pushed = λ nodes. record { real = x; origin = origin; is = arity; items = pushed }
pushed_unknown (Err e) o old new x origin arity pushed = tt

-- and one that puts a declaration's there
pub pushed_declared : (r : Result (Unit {0}) AllocError) (o : Path) (old new : List Real) (x : Real) (d : Declaration) (older : ℕ) (now : List Node) → path_of x.origin ≡ o → x.arity ≡ d.arity →
    ((before : List Node) → IsBefore before older now → (HasUnknown before d.root.0 → ⊥) → x.root ≡ d.root) → OnOk r (new ≡ old ++ x ∷ []) →
    OnOk r ((before : List Node) → IsBefore before older now → AddsReal before (a_declaration d) o old new)
pushed_declared (Ok u) o old new x d older now origin arity root pushed = λ before is. record { real = x; origin = origin; is = (arity, root before is); items = pushed }
pushed_declared (Err e) o old new x d older now origin arity root pushed = tt

-- what holds after any call
pub after_any : {A E : Type 0} (r : Result A E) (P : Type 0) → P → OnOk r P
after_any (Ok a) P p = p
after_any (Err e) P p = tt

-- a node of before in which an unknown type stands now
pub unknown_stood : (r : Result NodeRef AllocError) (n : NodeRef) (older : ℕ) (now : List Node) (has : Bool) → n.0 < older → (IsNode now n.0 → IsTrue has ↔ HasUnknown now n.0) → has ≡ true →
    IfOk r (λ m. (before : List Node) → IsBefore before older now → (HasUnknown before n.0 → ⊥) → m ≡ n)
unknown_stood (Ok m) n older now has lt tells is = λ before b not.
    let count = b.count in
    let longer = b.extends.longer in
    absurd (not (unknown_before before now n.0 b.sound b.extends (omega arith) ((tells (omega arith)).0 is)))
unknown_stood (Err e) n older now has lt tells is = tt

-- one type more is given to its origin
pub added_gives : (nodes : List Node) (given : Given) (o : Path) (old new : List Real) → AddsReal nodes given o old new → Gives nodes (Some given) o old new
added_gives nodes given o old new adds = record {
  real = Some adds.real;
  is = adds.is;
  each = λ p. ap (real_of p) adds.items ∙ real_of_more p old adds.real ∙ ap (λ (q : Path). option_or (real_of p old) (if same_path p q then Some adds.real else None)) adds.origin;
}

-- where nothing is given, all stays
pub none_gives : (nodes : List Node) (o : Path) (old : List Real) → Gives nodes None o old old
none_gives nodes o old = record {
  real = None;
  is = tt;
  each = λ p. sym (ap (option_or (real_of p old)) (if_none (same_path p o) None refl) ∙ or_none (real_of p old));
}

kept : (o p : Path) (rs : List Real) (x : Real) (other : Option Real) → real_of o rs ≡ Some x → real_of p rs ≡ option_or (real_of p rs) (if same_path p o then other else None)
kept o p rs x other e = at (same_path p o) refl
  where
    at : (t : Bool) → same_path p o ≡ t → real_of p rs ≡ option_or (real_of p rs) (if t then other else None)
    at true same = let here : real_of p rs ≡ Some x = ap (λ (q : Path). real_of q rs) (same_text p o (sym same)) ∙ e in rw here refl
    at false same = sym (or_none (real_of p rs))

-- an origin that has a type keeps it
pub kept_gives : (nodes : List Node) (given : Option Given) (o : Path) (rs : List Real) (x : Real) → real_of o rs ≡ Some x → Gives nodes given o rs rs
kept_gives nodes None o rs x e = none_gives nodes o rs
kept_gives nodes (Some an_unknown) o rs x e =
    let r : Real = record { origin = x.origin; root = x.root; arity = 0 } in
    record { real = Some r; is = refl; each = λ p. kept o p rs x (Some r) e }
kept_gives nodes (Some (a_declaration d)) o rs x e =
    let r : Real = record { origin = x.origin; root = d.root; arity = d.arity } in
    record { real = Some r; is = (refl, λ none. refl); each = λ p. kept o p rs x (Some r) e }

-- where a type is put, it is kept
pub put_gives : (c : Changes) (nodes : List Node) (given : Option Given) (o : Path) (n : NodeRef) (a : ℕ) → put_of c o ≡ put.Type n a → Gives nodes given o c.real.items c.real.items
put_gives c nodes given o n a is = let (x, there) = has_real c o n a is in kept_gives nodes given o c.real.items x there

-- what a call gives in a module that isn't known
pub unknown_gives : (r : Result (Unit {0}) AllocError) (older : ℕ) (now : List Node) (name : Name) (A : Side) (o : Path) (old new : List Real) → A ≡ unknown_module → OnOk r ((nodes : List Node) → AddsReal nodes an_unknown o old new) →
    OnOk r ((before : List Node) → IsBefore before older now → Gives before (given_for name A) o old new)
unknown_gives (Ok u) older now name A o old new is added = λ before b. subst (λ (B : Side). Gives before (given_for name B) o old new) (sym is) (added_gives before an_unknown o old new (added before))
unknown_gives (Err e) older now name A o old new is added = tt

given_newest : (name : Name) (A : Side) (d : Declaration) → newest_declared name A ≡ Some d → given_for name A ≡ Some (a_declaration d)
given_newest name nothing d e = absurd cc
given_newest name unknown_module d e = absurd cc
given_newest name (known es) d e = subst (λ (x : Option Declaration). elim x [ None ↦ None | Some y ↦ Some (a_declaration y) ] ≡ Some (a_declaration d)) (sym e) refl

-- and where a declaration of the name is found
pub declared_gives : (r : Result (Unit {0}) AllocError) (older : ℕ) (now : List Node) (name : Name) (A : Side) (d : Declaration) (o : Path) (old new : List Real) → newest_declared name A ≡ Some d →
    OnOk r ((before : List Node) → IsBefore before older now → AddsReal before (a_declaration d) o old new) → OnOk r ((before : List Node) → IsBefore before older now → Gives before (given_for name A) o old new)
declared_gives (Ok u) older now name A d o old new is added = λ before b.
    subst (λ (g : Option Given). Gives before g o old new) (sym (given_newest name A d is)) (added_gives before (a_declaration d) o old new (added before b))
declared_gives (Err e) older now name A d o old new is added = tt

first_real : (nodes : List Node) (f g : Option Given) (r s : Option Real) → IsReal nodes f r → IsReal nodes g s → IsReal nodes (option_or f g) (option_or r s)
first_real nodes None g None s is other = other
first_real nodes None g (Some r) s is other = absurd is
first_real nodes (Some an_unknown) g None s is other = absurd is
first_real nodes (Some an_unknown) g (Some r) s is other = is
first_real nodes (Some (a_declaration d)) g None s is other = absurd is
first_real nodes (Some (a_declaration d)) g (Some r) s is other = is

-- nothing is found yet
pub nothing_found : (nodes : List Node) (made : List Path) (o : Path) (A : Side) (left : List Entry) (old : List Real) → Finding nodes made o A left left old old
nothing_found nodes made o A left old = record { found = None; finds = λ rest finds. finds; real = None; is = tt; each = sym (or_none (real_of o old)) }

-- one part of the components after the other
pub finding_then : (nodes : List Node) (made : List Path) (o : Path) (A : Side) (left mid whole : List Entry) (old now new : List Real) → Finding nodes made o A mid whole old now → Finding nodes made o A left mid now new →
    Finding nodes made o A left whole old new
finding_then nodes made o A left mid whole old now new a b = record {
  found = option_or a.found b.found;
  finds = λ rest finds. subst (FindsIn made o A whole) (sym (or_assoc a.found b.found rest)) (a.finds (option_or b.found rest) (b.finds rest finds));
  real = option_or a.real b.real;
  is = first_real nodes a.found b.found a.real b.real a.is b.is;
  each = b.each ∙ ap (λ (x : Option Real). option_or x b.real) a.each ∙ or_assoc (real_of o old) a.real b.real;
}

-- no component is left
pub finding_all : (nodes : List Node) (made : List Path) (o : Path) (A : Side) (wanted : Sig) (es : List (Rc Entry Global)) (old new : List Real) → components_of wanted ≡ Some es →
    Finding nodes made o A [] (entries_of es) old new → FindingAll nodes made o A wanted old new
finding_all nodes made o A wanted es old new e f = record {
  found = f.found;
  finds = in_structure es e (subst (FindsIn made o A (entries_of es)) (or_none f.found) (f.finds None none_left));
  real = f.real;
  is = f.is;
  each = f.each;
}

-- there are no components
pub finding_none : (nodes : List Node) (made : List Path) (o : Path) (A : Side) (wanted : Sig) (old : List Real) → components_of wanted ≡ None → FindingAll nodes made o A wanted old old
finding_none nodes made o A wanted old e = record { found = None; finds = no_structure e; real = None; is = tt; each = sym (or_none (real_of o old)) }

-- a wanted module
pub finding_module : (nodes : List Node) (made : List Path) (o : Path) (A : Side) (e : Entry) (es : List Entry) (s : Sig) (old new : List Real) → module_by (out-What e.what) ≡ Some s →
    FindingAll nodes made o (inner_side (str_bytes e.name) A) s old new → Finding nodes made o A es (e ∷ es) old new
finding_module nodes made o A e es s old new is f = record { found = f.found; finds = λ rest finds. by_module s is f.finds finds; real = f.real; is = f.is; each = f.each }

here : (made : List Path) (q : Path) (p : Path) (t : Bool) → among q made ≡ t → (if t then Some q else None) ≡ Some p → (among q made ≡ true) × (q ≡ p)
here made q p true among e = (among, cc)
here made q p false among e = absurd cc

-- what a declaration gives whose origin is made
own_given : (made : List Path) (origin : Option Origin) (p o : Path) (given : Option Given) → made_here made origin ≡ Some p →
    (if is_own o origin && among o made then given else None) ≡ (if same_path o p then given else None)
own_given made None p o given e = absurd cc
own_given made (Some q) p o given e =
    let (inside, is) = here made (path_of q) p (among (path_of q) made) refl e in
    subst (λ (x : Path). (if same_path o (path_of q) && among o made then given else None) ≡ (if same_path o x then given else None)) is (at inside (same_path o (path_of q)) refl)
  where
    at : among (path_of q) made ≡ true → (t : Bool) → same_path o (path_of q) ≡ t → (if t && among o made then given else None) ≡ (if t then given else None)
    at inside true same = let all : among o made ≡ true = ap (λ (x : Path). among x made) (same_text o (path_of q) (sym same)) ∙ inside in rw all refl
    at inside false same = refl

-- and of one whose origin isn't
none_given : (made : List Path) (origin : Option Origin) (o : Path) (given : Option Given) → made_here made origin ≡ None → (if is_own o origin && among o made then given else None) ≡ None
none_given made None o given e = refl
none_given made (Some q) o given e = at (same_path o (path_of q)) refl
  where
    out : (t : Bool) → among (path_of q) made ≡ t → (if t then Some (path_of q) else None) ≡ None → among (path_of q) made ≡ false
    out true is f = absurd cc
    out false is f = is

    at : (t : Bool) → same_path o (path_of q) ≡ t → (if t && among o made then given else None) ≡ None
    at true same = let none : among o made ≡ false = ap (λ (x : Path). among x made) (same_text o (path_of q) (sym same)) ∙ out (among (path_of q) made) refl e in rw none refl
    at false same = refl

-- a wanted type that makes an origin
pub finding_own : (nodes : List Node) (made : List Path) (o : Path) (A : Side) (e : Entry) (es : List Entry) (p : Path) (old new : List Real) → made_by made (declared_by (out-What e.what)) ≡ Some p →
    Gives nodes (given_for (str_bytes e.name) A) p old new → Finding nodes made o A es (e ∷ es) old new
finding_own nodes made o A e es p old new is gives = at (declared_by (out-What e.what)) refl is
  where
    at : (d : Option Declaration) → declared_by (out-What e.what) ≡ d → made_by made d ≡ Some p → Finding nodes made o A es (e ∷ es) old new
    at None declared own = absurd cc
    at (Some d) declared own = record {
      found = given_by made o (str_bytes e.name) A d;
      finds = λ rest finds. by_type d declared finds;
      real = if same_path o p then gives.real else None;
      is = subst (λ (g : Option Given). IsReal nodes g (if same_path o p then gives.real else None)) (sym (own_given made d.origin p o (given_for (str_bytes e.name) A) own))
          (elim (same_path o p) as (λ t. IsReal nodes (if t then given_for (str_bytes e.name) A else None) (if t then gives.real else None)) [ true ↦ gives.is | false ↦ tt ]);
      each = gives.each o;
    }

-- another wanted component
pub finding_other : (nodes : List Node) (made : List Path) (o : Path) (A : Side) (e : Entry) (es : List Entry) (old : List Real) → made_by made (declared_by (out-What e.what)) ≡ None → module_by (out-What e.what) ≡ None →
    Finding nodes made o A es (e ∷ es) old old
finding_other nodes made o A e es old is other = at (declared_by (out-What e.what)) refl is
  where
    at : (d : Option Declaration) → declared_by (out-What e.what) ≡ d → made_by made d ≡ None → Finding nodes made o A es (e ∷ es) old old
    at None declared own = record { found = None; finds = λ rest finds. by_other declared other finds; real = None; is = tt; each = sym (or_none (real_of o old)) }
    at (Some d) declared own = record {
      found = None;
      finds = λ rest finds. subst (λ (g : Option Given). FindsIn made o A (e ∷ es) (option_or g rest)) (none_given made d.origin o (given_for (str_bytes e.name) A) own) (by_type d declared finds);
      real = None;
      is = tt;
      each = sym (or_none (real_of o old));
    }

-- what a call gives for a wanted type that makes an origin
pub own_found : (r : Result (Unit {0}) AllocError) (older : ℕ) (now : List Node) (made : List Path) (A : Side) (e : Entry) (p : Path) (name : Name) (old new : List Real) → name ≡ str_bytes e.name →
    Some p ≡ made_by made (declared_by (out-What e.what)) → OnOk r ((before : List Node) → IsBefore before older now → Gives before (given_for name A) p old new) →
    OnOk r ((before : List Node) → IsBefore before older now → (es : List Entry) (o : Path) → Finding before made o A es (e ∷ es) old new)
own_found (Ok u) older now made A e p name old new named is gives = λ before b es o.
    finding_own before made o A e es p old new (sym is) (subst (λ (n : Name). Gives before (given_for n A) p old new) named (gives before b))
own_found (Err x) older now made A e p name old new named is gives = tt

-- and for a wanted module
pub module_found : (r : Result (Unit {0}) AllocError) (older : ℕ) (now : List Node) (made : List Path) (A inner : Side) (e : Entry) (s t : Sig) (name : Name) (old new : List Real) → name ≡ str_bytes e.name →
    inner ≡ inner_side name A → Some s ≡ module_by (out-What e.what) → t ≡ s → OnOk r ((before : List Node) → IsBefore before older now → (o : Path) → FindingAll before made o inner t old new) →
    OnOk r ((before : List Node) → IsBefore before older now → (es : List Entry) (o : Path) → Finding before made o A es (e ∷ es) old new)
module_found (Ok u) older now made A inner e s t name old new named side is same found = λ before b es o.
    finding_module before made o A e es s old new (sym is)
    (subst (λ (x : Sig). FindingAll before made o (inner_side (str_bytes e.name) A) x old new) same (subst (λ (x : Side). FindingAll before made o x t old new) (side ∙ ap (λ (n : Name). inner_side n A) named) (found before b o)))
module_found (Err x) older now made A inner e s t name old new named side is same found = tt

-- nodes of before, when others are added
pub before_later : (before old new : List Node) (older : ℕ) → IsBefore before older old → Extends old new → IsBefore before older new
before_later before old new older is extends = record { sound = is.sound; count = is.count; extends = extends_trans before old new is.extends extends }

-- one component more
pub finding_more : (nodes : List Node) (made : List Path) (o : Path) (A : Side) (es : List (Rc Entry Global)) (i : ℕ) (r : Rc Entry Global) (e : Entry) (old now new : List Real) → i < length es → r ≡ get_or es i r → e ≡ r.value →
    Finding nodes made o A (entries_of (drop i es)) (entries_of es) old now → ((rest : List Entry) → Finding nodes made o A rest (e ∷ rest) now new) → Finding nodes made o A (entries_of (drop (i + 1) es)) (entries_of es) old new
finding_more nodes made o A es i r e old now new lt at is before step =
    let left : entries_of (drop i es) ≡ e ∷ entries_of (drop (i + 1) es) =
    ap entries_of (drop_more es i r lt ∙ ap (λ (x : Rc Entry Global). x ∷ drop (i + 1) es) (sym at)) ∙ ap (λ (x : Entry). x ∷ entries_of (drop (i + 1) es)) (sym is) in
    finding_then nodes made o A (entries_of (drop (i + 1) es)) (entries_of (drop i es)) (entries_of es) old now new before
    (subst (λ (xs : List Entry). Finding nodes made o A (entries_of (drop (i + 1) es)) xs now new) (sym left) (step (entries_of (drop (i + 1) es))))

-- all components of a structure
pub finding_structure : (nodes : List Node) (made : List Path) (o : Path) (A : Side) (wanted : Sig) (es : Components) (xs : List (Rc Entry Global)) (i : ℕ) (old new : List Real) → wanted ≡ sig.Structure es → xs ≡ (out-Components es).entries.items →
    length xs ≤ i → Finding nodes made o A (entries_of (drop i xs)) (entries_of xs) old new → FindingAll nodes made o A wanted old new
finding_structure nodes made o A wanted es xs i old new is same le f =
    finding_all nodes made o A wanted xs old new (ap components_of is ∙ of_structure es ∙ ap (λ (ys : List (Rc Entry Global)). Some ys) (sym same))
    (subst (λ (ys : List (Rc Entry Global)). Finding nodes made o A (entries_of ys) (entries_of xs) old new) (drop_all i xs le) f)

none_in_functor : (p b : Rc Template Global) → components_of (sig.Functor p b) ≡ None
unfolding sigs.out-Sig denote.Hole.Carrier.out
none_in_functor p b = refl

none_in_hole : components_of sig.Hole ≡ None
unfolding sigs.out-Sig denote.Hole.Carrier.out
none_in_hole = refl

-- in a functor nothing is wanted
pub finding_functor : (nodes : List Node) (made : List Path) (o : Path) (A : Side) (wanted : Sig) (p b : Rc Template Global) (old : List Real) → wanted ≡ sig.Functor p b → FindingAll nodes made o A wanted old old
finding_functor nodes made o A wanted p b old is = finding_none nodes made o A wanted old (ap components_of is ∙ none_in_functor p b)

-- nor in a signature that isn't known
pub finding_hole : (nodes : List Node) (made : List Path) (o : Path) (A : Side) (wanted : Sig) (old : List Real) → wanted ≡ sig.Hole → FindingAll nodes made o A wanted old old
finding_hole nodes made o A wanted old is = finding_none nodes made o A wanted old (ap components_of is ∙ none_in_hole)

zip_last : (os : List Origin) (rs : List Real) (o : Origin) (r : Real) → IsUnknownFor o r → AllZip IsUnknownFor os rs → AllZip IsUnknownFor (os ++ o ∷ []) (rs ++ r ∷ [])
zip_last [] [] o r is z = (is, tt)
zip_last [] (y ∷ rs) o r is z = absurd z
zip_last (x ∷ os) [] o r is z = absurd z
zip_last (x ∷ os) (y ∷ rs) o r is z = (z.0, zip_last os rs o r is z.1)

-- an unknown type more
pub unknown_more : (os : List Origin) (i : ℕ) (o : Origin) (ys zs : List Real) → i < length os → o ≡ get_or os i o → AllZip IsUnknownFor (take i os) ys → AddsReal [] an_unknown (path_of o) ys zs → AllZip IsUnknownFor (take (i + 1) os) zs
unknown_more os i o ys zs lt at before adds =
    let left : take (i + 1) os ≡ take i os ++ o ∷ [] = take_more os i o lt ∙ ap (λ (x : Origin). take i os ++ x ∷ []) (sym at) in
    subst (λ (xs : List Origin). AllZip IsUnknownFor xs zs) (sym left) (subst (AllZip IsUnknownFor (take i os ++ o ∷ [])) (sym adds.items) (zip_last (take i os) ys o adds.real (adds.origin, adds.is) before))

unknown_real : (nodes : List Node) (os : List Origin) (rs : List Real) → AllZip IsUnknownFor os rs → (o : Path) → among o (paths_of os) ≡ true → IsReal nodes (Some an_unknown) (real_of o rs)
unknown_real nodes [] rs z o = λ h. absurd cc
unknown_real nodes (x ∷ os) [] z o = absurd z
unknown_real nodes (x ∷ os) (r ∷ rs) z o =
    subst (λ (q : Path). (same_path o (path_of x) || among o (paths_of os)) ≡ true → IsReal nodes (Some an_unknown) (if same_path o q then Some r else real_of o rs)) (sym z.0.0)
    (elim (same_path o (path_of x)) as (λ t. (t || among o (paths_of os)) ≡ true → IsReal nodes (Some an_unknown) (if t then Some r else real_of o rs)) [
      | true ↦ λ h. z.0.1
      | false ↦ λ h. unknown_real nodes os rs z.1 o h
    ])

realises_unknown : (nodes : List Node) (A : Sig) (t : Template) (r : Realised) → A ≡ sig.Hole → r.changes.made.items ≡ [] → AllZip IsUnknownFor t.made.items r.changes.real.items → Realises nodes A t r
unfolding sigs.out-Sig denote.Hole.Carrier.out
realises_unknown nodes A t r is none z = subst (λ (s : Sig). Realises nodes s t r) (sym is) (record { made = none; each = λ o inside. (Some an_unknown, refl, unknown_real nodes t.made.items r.changes.real.items z o inside) })

realises_known : (nodes : List Node) (A : Sig) (t : Template) (r : Realised) (old : List Real) → side_of A ≡ known (names_in (inside_sig A)) → old ≡ [] → r.changes.made.items ≡ [] →
    ((o : Path) → FindingAll nodes (made_of t) o (known (names_in (inside_sig A))) (sig_of t) old r.changes.real.items) → Realises nodes A t r
realises_known nodes A t r old is empty none f = record {
  made = none;
  each = λ o inside.
      let one = f o in
      let has : real_of o r.changes.real.items ≡ one.real = one.each ∙ ap (λ (rs : List Real). option_or (real_of o rs) one.real) empty in
      (one.found, subst (λ (s : Side). GetsBy s t o one.found) (sym is) one.finds, subst (IsReal nodes one.found) (sym has) one.is);
}

side_structure : (es : Components) → side_of (sig.Structure es) ≡ known (names_in (inside_sig (sig.Structure es)))
unfolding sigs.out-Sig denote.Hole.Carrier.out
side_structure es = refl

side_functor : (p b : Rc Template Global) → side_of (sig.Functor p b) ≡ known (names_in (inside_sig (sig.Functor p b)))
unfolding sigs.out-Sig denote.Hole.Carrier.out
side_functor p b = refl

-- the side that a structure is
pub known_structure : (A : Sig) (es : Components) → A ≡ sig.Structure es → side_of A ≡ known (names_in (inside_sig A))
known_structure A es is = subst (λ (s : Sig). side_of s ≡ known (names_in (inside_sig s))) (sym is) (side_structure es)

-- and a functor, in which nothing stands
pub known_functor : (A : Sig) (p b : Rc Template Global) → A ≡ sig.Functor p b → side_of A ≡ known (names_in (inside_sig A))
known_functor A p b is = subst (λ (s : Sig). side_of s ≡ known (names_in (inside_sig s))) (sym is) (side_functor p b)

-- what a call gives where the actual signature isn't known
pub unknown_realises : (r : Result (Unit {0}) AllocError) (older : ℕ) (now : List Node) (A : Sig) (t : Template) (os : List Origin) (old new : Realised) → A ≡ sig.Hole → os ≡ t.made.items →
    OnOk r (old.changes.real.items ≡ [] → AllZip IsUnknownFor os new.changes.real.items) → OnOk r (new.changes.made ≡ old.changes.made) →
    OnOk r (old.changes.made.items ≡ [] → old.changes.real.items ≡ [] → (before : List Node) → IsBefore before older now → Realises before A t new)
unknown_realises (Ok u) older now A t os old new is same unknown made = λ none empty before b.
    realises_unknown before A t new is (ap (λ m. m.items) made ∙ none) (subst (λ (xs : List Origin). AllZip IsUnknownFor xs new.changes.real.items) same (unknown empty))
unknown_realises (Err e) older now A t os old new is same unknown made = tt

-- and where it is known
pub walk_realises : (r : Result (Unit {0}) AllocError) (older : ℕ) (now : List Node) (A W : Sig) (t : Template) (ps : List Path) (old new : Realised) → side_of A ≡ known (names_in (inside_sig A)) → ps ≡ made_of t → W ≡ sig_of t →
    OnOk r ((before : List Node) → IsBefore before older now → (o : Path) → FindingAll before ps o (known (names_in (inside_sig A))) W old.changes.real.items new.changes.real.items) → OnOk r (new.changes.made ≡ old.changes.made) →
    OnOk r (old.changes.made.items ≡ [] → old.changes.real.items ≡ [] → (before : List Node) → IsBefore before older now → Realises before A t new)
walk_realises (Ok u) older now A W t ps old new side same whole found made = λ none empty before b.
    realises_known before A t new old.changes.real.items side empty (ap (λ m. m.items) made ∙ none)
    (λ o. subst (λ (x : Sig). FindingAll before (made_of t) o (known (names_in (inside_sig A))) x old.changes.real.items new.changes.real.items) whole
    (subst (λ (qs : List Path). FindingAll before qs o (known (names_in (inside_sig A))) W old.changes.real.items new.changes.real.items) same (found before b o)))
walk_realises (Err e) older now A W t ps old new side same whole found made = tt
