-- The parts of a copy of a declaration's root: its parameters, and its body.
use Rattle.std.proofs.Common.{◌≡◌, ◌∙◌, ℕ, zero, suc, ◌+◌, true, false, List, [], ◌∷◌, ◌++◌, length, map, Some, refl, sym, ap, subst, arith}
use Rattle.std.specs.Prelude.{slice_get}
use Rattle.type_model.specs.Types.{Typ, Typs, types_of, occurs, occurs_any}
use Rattle.type_model.specs.Types.{Typ as type, Typs as types}
use Rattle.type_model.specs.Substitutions.{apply, apply_all}
use Rattle.type_model.proofs.Applying.{or_left, or_right, eqb_same}
use Rattle.signature_model.specs.Declarations.{parameters_from}
use Rattle.signature_model.specs.Matching.{IsKnown}
use Rattle.type_nodes.specs.Nodes.{Node, Tuple}
use Rattle.type_nodes.specs.Links.{reading}
use Rattle.type_nodes.specs.Readings.{Types}
use Rattle.level_unify.specs.Solutions.{Loose}
use Rattle.typing_conditions.specs.Locals.{IsOwn}
use Rattle.typing_conditions.specs.Declared.{IsNamed, a_parameter, an_unknown, RootAs, and_last, with_parameters}
use Rattle.typing_conditions.proofs.Taking.{HasImages}
use Rattle.typing_rows.proofs.Filled.{tuple_is}

-- a parameter of the copy: the image of the variable that has this number
pub record IsParameter (nodes : List Node) (N : Types) (image : ℕ → ℕ) (t : Typ) (p k : ℕ) : Type 0 where
  pub variable : ℕ
  pub occurs : occurs variable t ≡ true
  pub named : N variable ≡ type.Var k
  pub is : (V : Types) → Loose nodes V → V p ≡ V (image variable)

-- the body of the copy: a part of the root's type, whose name is the type t
pub record IsBody (nodes : List Node) (N : Types) (image : ℕ → ℕ) (whole : Typ) (body : ℕ) (t : Typ) : Type 0 where
  pub type : Typ
  pub inside : (v : ℕ) → occurs v type ≡ true → occurs v whole ≡ true
  pub known : IsKnown whole → IsKnown type
  pub named : apply N type ≡ t
  pub is : (V : Types) → Loose nodes V → V body ≡ apply (λ v. V (image v)) type

-- the parts of a tuple that is a copy: its parameters in order, from a number on, and its body
pub record AreParts (nodes : List Node) (N : Types) (image : ℕ → ℕ) (us : Typs) (ps : List ℕ) (body from : ℕ) (t : Typ) : Type 0 where
  pub parameters : (k p : ℕ) → slice_get ps k ≡ Some p → IsParameter nodes N image (type.Tuple us) p (from + k)
  pub rest : IsBody nodes N image (type.Tuple us) body t

-- what becomes a variable by names is one
pub becomes_variable : (N : Types) (k : ℕ) (u : Typ) → apply N u ≡ type.Var k → (v : ℕ) × (u ≡ type.Var v)
becomes_variable N k (type.Var v) e = (v, refl)
becomes_variable N k (type.Arrow a b) e = absurd (cc)
becomes_variable N k (type.Tuple ts) e = absurd (cc)
becomes_variable N k (type.Con o ts) e = absurd (cc)

pub parts_of : {nodes : List Node} {N : Types} {image : ℕ → ℕ} (us : Typs) (ps : List ℕ) (body from : ℕ) (t : Typ) → apply_all N us ≡ and_last (parameters_from from (length ps)) t →
    ((V : Types) → Loose nodes V → types_of (map V (ps ++ body ∷ [])) ≡ apply_all (λ v. V (image v)) us) → AreParts nodes N image us ps body from t
parts_of types.Nil [] body from t named is = absurd (cc)
parts_of (types.Cons u (types.Cons w ws)) [] body from t named is = absurd (cc)
parts_of {nodes} {N} {image} (types.Cons u types.Nil) [] body from t named is = record {
  parameters = λ k p e. absurd (cc);
  rest = record {
    type = u;
    inside = λ v o. or_left (occurs v u) false o;
    known = λ h. h.0;
    named = cc;
    is = λ V loose. let f : types.Cons (V body) types.Nil ≡ types.Cons (apply (λ v. V (image v)) u) types.Nil = is V loose in cc;
  };
}
parts_of types.Nil (p ∷ ps) body from t named is = absurd (cc)
parts_of {nodes} {N} {image} (types.Cons u us) (p ∷ ps) body from t named is =
    let f : apply_all N us ≡ and_last (parameters_from (from + 1) (length ps)) t = (let g : types.Cons (apply N u) (apply_all N us) ≡ types.Cons (type.Var from) (and_last (parameters_from (from + 1) (length ps)) t) = named in cc) in
    let head : apply N u ≡ type.Var from = (let g : types.Cons (apply N u) (apply_all N us) ≡ types.Cons (type.Var from) (and_last (parameters_from (from + 1) (length ps)) t) = named in cc) in
    let (v, e) = becomes_variable N from u head in
    let more = parts_of us ps body (from + 1) t f (λ V loose. let g : types.Cons (V p) (types_of (map V (ps ++ body ∷ []))) ≡ types.Cons (apply (λ v. V (image v)) u) (apply_all (λ v. V (image v)) us) = is V loose in cc) in
    record {
      parameters = by v e head more;
      rest = record { type = more.rest.type; inside = λ w o. or_right (occurs w u) (occurs_any w us) (more.rest.inside w o); known = λ h. more.rest.known h.1; named = more.rest.named; is = more.rest.is };
    }
  where
    by : (v : ℕ) → u ≡ type.Var v → apply N u ≡ type.Var from → AreParts nodes N image us ps body (from + 1) t → (k q : ℕ) → slice_get (p ∷ ps) k ≡ Some q → IsParameter nodes N image (type.Tuple (types.Cons u us)) q (from + k)
    by v e head more zero q at =
        let s : p ≡ q = cc in
        record {
          variable = v;
          occurs = or_left (occurs v u) (occurs_any v us) (ap (occurs v) e ∙ eqb_same v);
          named = ap (apply N) (sym e) ∙ head ∙ ap type.Var (let z : from ≡ from + 0 = omega arith in z);
          is = λ V loose. ap V (sym s) ∙ (let g : types.Cons (V p) (types_of (map V (ps ++ body ∷ []))) ≡ types.Cons (apply (λ v. V (image v)) u) (apply_all (λ v. V (image v)) us) = is V loose in let h : V p ≡ apply (λ v. V (image v)) u = cc in h) ∙ ap (apply (λ v. V (image v))) e;
        }
    by v e head more (suc k) q at =
        let x = more.parameters k q at in
        record {
          variable = x.variable;
          occurs = or_right (occurs x.variable u) (occurs_any x.variable us) x.occurs;
          named = x.named ∙ ap type.Var (let z : (from + 1) + k ≡ from + suc k = omega arith in z);
          is = x.is;
        }

-- the parts of a copy of a root whose type is `whole`, whatever the number of its parameters
pub record HasParts (nodes : List Node) (N : Types) (image : ℕ → ℕ) (whole : Typ) (ps : List ℕ) (body : ℕ) (t : Typ) : Type 0 where
  pub parameters : (k p : ℕ) → slice_get ps k ≡ Some p → IsParameter nodes N image whole p k
  pub rest : IsBody nodes N image whole body t

-- what becomes a tuple by names is one
pub becomes_tuple : {nodes : List Node} {N : Types} {arity : ℕ} (ts : Typs) (u : Typ) → ((v : ℕ) → occurs v u ≡ true → IsNamed nodes N arity v) → apply N u ≡ type.Tuple ts → (us : Typs) × (u ≡ type.Tuple us) × (apply_all N us ≡ ts)
becomes_tuple {nodes} {N} {arity} ts (type.Var v) named e = absurd (by (named v (eqb_same v)))
  where
    by : IsNamed nodes N arity v → ⊥
    by (a_parameter scope k at other lt is) = let h : type.Var k ≡ type.Tuple ts = sym is ∙ e in cc
    by (an_unknown o at u is) = let h : type.Con o types.Nil ≡ type.Tuple ts = sym is ∙ e in cc
becomes_tuple ts (type.Arrow a b) named e = absurd (cc)
becomes_tuple {N = N} ts (type.Tuple us) named e = (us, refl, cc)
becomes_tuple ts (type.Con o us) named e = absurd (cc)

-- A copy of a root without parameters is its body alone.
pub parts_alone : {old nodes : List Node} {I N : Types} {C : List ℕ} {r m : ℕ} {t : Typ} → IsOwn old I → RootAs old C N zero r t → (images : HasImages nodes I r m) → HasParts nodes N images.image (I r) [] m t
parts_alone {I = I} {r = r} own root images = record {
  parameters = λ k p e. absurd (cc);
  rest = record { type = I r; inside = λ v o. o; known = λ h. h; named = sym (root.is I own); is = λ V loose. images.is V loose };
}

-- A copy of a root over parameters is a tuple of them and its body.
pub parts_tuple : {old nodes : List Node} {I N : Types} {C : List ℕ} {r m body : ℕ} {t : Typ} (ps : List ℕ) (k : ℕ) → length ps ≡ suc k → IsOwn old I → RootAs old C N (suc k) r (with_parameters (suc k) t) → (images : HasImages nodes I r m) →
    reading nodes m ≡ Some (Tuple (ps ++ body ∷ [])) → HasParts nodes N images.image (I r) ps body t
parts_tuple {old} {nodes} {I} {N} {C} {r} {m} {body} {t} ps k many own root images reads =
    let (us, is, named) = becomes_tuple (and_last (parameters_from 0 (suc k)) t) (I r) (root.named I own) (sym (root.is I own)) in
    let parts = parts_of {nodes = nodes} {image = images.image} us ps body 0 t (named ∙ ap (λ j. and_last (parameters_from 0 j) t) (sym many)) (λ V loose.
    let f : type.Tuple (types_of (map V (ps ++ body ∷ []))) ≡ type.Tuple (apply_all (λ v. V (images.image v)) us) = sym (tuple_is nodes V m (ps ++ body ∷ []) loose reads) ∙ images.is V loose ∙ ap (apply (λ v. V (images.image v))) is in cc) in
    subst (λ whole. HasParts nodes N images.image whole ps body t) (sym is) (record {
      parameters = λ j p e. let x = parts.parameters j p e in record { variable = x.variable; occurs = x.occurs; named = x.named ∙ ap type.Var (let z : 0 + j ≡ j = omega arith in z); is = x.is };
      rest = parts.rest;
    })
