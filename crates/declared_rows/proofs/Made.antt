-- An assignment goes on to a new node: a parameter, an unknown type, or a node over others.
use Rattle.std.proofs.Common.{◌≡◌, ◌≢◌, ◌∙◌, ◌⊎◌, inl, inr, ℕ, zero, suc, ◌+◌, ◌^◌, ◌<◌, ◌≤◌, true, false, ◌||◌, List, [], ◌∷◌, ◌++◌, length, map, All, Some, refl, sym, ap, subst, arith}
use Rattle.std.specs.Prelude.{slice_get}
use Rattle.std.proofs.lemmas.Bool.{eqb-true}
use Rattle.std.proofs.lemmas.Option.{slice_get_within}
use Rattle.type_model.specs.Types.{Path, Typ, types_of, occurs, occurs_any}
use Rattle.type_model.specs.Types.{Typ as type, Typs as types}
use Rattle.type_model.proofs.Applying.{or_left, or_right, or_cases, apply_leaves}
use Rattle.signature_model.specs.Declarations.{unknown}
use Rattle.type_nodes.specs.Nodes.{Node, IsNode, Var, Arrow, Tuple, Con, parts}
use Rattle.type_nodes.specs.Readings.{Types}
use Rattle.type_nodes.specs.States.{Change, state}
use Rattle.type_nodes.specs.Changes.{Makes}
use Rattle.type_nodes.proofs.Lists.{one_element}
use Rattle.level_unify.specs.Copies.{Extends}
use Rattle.level_unify.specs.Solutions.{FitsLoosely}
use Rattle.typing_conditions.specs.Locals.{IsOwn, stands_in_any}
use Rattle.typing_conditions.specs.Standing.{IsIn}
use Rattle.typing_conditions.specs.Sights.{Sight}
use Rattle.typing_conditions.specs.Frames.{Frame, IsOpen}
use Rattle.typing_conditions.specs.Steps.{OnlyNodes}
use Rattle.typing_conditions.proofs.Own.{own_of}
use Rattle.typing_conditions.proofs.Regions.{any_in, in_any}
use Rattle.typing_conditions.proofs.Making.{with_type, at_own, at_older, makes_extends, loose_before, reading_before, made_here}
use Rattle.typing_conditions.proofs.Steps.{refines_made}
use Rattle.typing_conditions.proofs.Framing.{open_next, open_made}
use Rattle.declared_rows.specs.Assignments.{IsAssigned, a_parameter, an_unknown, Assignment, Assigns, Denotes, AllDenote, none_denote, one_denotes, Assigned, AssignedTo}
use Rattle.declared_rows.proofs.Opening.{open_scoped, loose_made}

-- what is assigned stays so with the same type, among more type expressions and parameters
pub assigned_same : {S W : Types} {older U U' : List ℕ} {arity arity' o v : ℕ} → W v ≡ S v → ((n : ℕ) → IsIn U n → IsIn U' n) → arity ≤ arity' → IsAssigned S older U arity o v → IsAssigned W older U' arity' o v
assigned_same e more le (a_parameter k scoped lt is) = a_parameter k scoped (omega arith) (e ∙ is)
assigned_same e more le (an_unknown p n scope u i new is) = an_unknown p n scope u (more n i) new (e ∙ is)

-- the nodes' own types at older nodes are the same
pub own_older : {old new : List Node} {J K : Types} → IsOwn old J → IsOwn new K → Extends old new → (m : ℕ) → m < length old → K m ≡ J m
own_older {old} {new} {J} {K} before after extends m lt = before.comes K (loose_before old new K extends after.loose) m ∙ apply_leaves K (J m) (λ v o.
    let var = before.only m v lt o in
    after.vars v var.level var.scope (extends.node v (slice_get_within old v (Var var.level var.scope) var.at) ∙ var.at))

-- the same variables stand in nodes that have the same types
pub any_same : (J K : Types) (ms : List ℕ) (v : ℕ) → ((k m : ℕ) → slice_get ms k ≡ Some m → K m ≡ J m) → stands_in_any K ms v ≡ stands_in_any J ms v
any_same J K [] v e = refl
any_same J K (m ∷ ms) v e = let f = e 0 m refl in let g = any_same J K ms v (λ k n at. e (suc k) n at) in (λ i. occurs v (f i) || g i)

-- A new node c, which has the type t.
module _ {F : Frame} {a b : Sight} {s u : List Change} {arity arity' : ℕ} {U U' : List ℕ} {A : Assignment} {n : ℕ} {c : Node} (t : Typ) (at : Assigns F arity U a A) (made : Makes (state a.nodes s) (state b.nodes u) n c) (open_node : IsOpen F b n)
    (more : (k : ℕ) → IsIn U k → IsIn U' k) (le : arity ≤ arity') (fits : FitsLoosely (with_type A.types n t) n c)
    (vars : (K : Types) → IsOwn b.nodes K → (v : ℕ) → occurs v (K n) ≡ true → (stands_in_any K A.nodes v ≡ true) ⊎ ((l : ℕ) × (o : ℕ) × (v ≡ n) × (c ≡ Var l o)))
    (named : (l o : ℕ) → c ≡ Var l o → IsAssigned (with_type A.types n t) A.older U' arity' o n)
    (other : (l o v : ℕ) (J : Types) → c ≡ Var l o → IsOwn a.nodes J → stands_in_any J A.nodes v ≡ true → A.types v ≡ t → ⊥) where
  abbrev pub with_node : Assignment
  with_node = record { types = with_type A.types n t; nodes = n ∷ A.nodes; older = A.older }

  older : (m : ℕ) → m < length a.nodes → with_node.types m ≡ A.types m
  older m lt = at_older A.types n t m (let e = made.added.number in omega arith)

  extends : Extends a.nodes b.nodes
  extends = makes_extends (state a.nodes s) (state b.nodes u) n c made

  own_a : (J : Types) × IsOwn a.nodes J
  own_a = own_of a.nodes at.reached.sound

  -- a variable that stood in nodes of before
  record WasVar (v : ℕ) : Type 0 where
    pub stands : stands_in_any own_a.0 A.nodes v ≡ true
    pub inside : v < length a.nodes

  was_var : (K : Types) → IsOwn b.nodes K → (v : ℕ) → stands_in_any K A.nodes v ≡ true → WasVar v
  was_var K own v h =
      let was : stands_in_any own_a.0 A.nodes v ≡ true = sym (any_same own_a.0 K A.nodes v (λ k m e. own_older own_a.1 own extends m (at.opens m (k, e)).inside)) ∙ h in
      let x = in_any v own_a.0 A.nodes was in
      let var = own_a.1.only x.node v (at.opens x.node (x.place, x.at)).inside x.occurs in
      record { stands = was; inside = slice_get_within a.nodes v (Var var.level var.scope) var.at }

  -- a variable stood in a node of before, or is the new node
  which : (K : Types) → IsOwn b.nodes K → (v : ℕ) → stands_in_any K with_node.nodes v ≡ true → WasVar v ⊎ ((l : ℕ) × (o : ℕ) × (v ≡ n) × (c ≡ Var l o))
  which K own v h = elim (or_cases (occurs v (K n)) (stands_in_any K A.nodes v) h) [
    | inl i ↦ elim (vars K own v i) [ inl j ↦ inl (was_var K own v j) | inr new ↦ inr new ]
    | inr i ↦ inl (was_var K own v i)
  ]

  apart : (K : Types) → IsOwn b.nodes K → (v w : ℕ) → stands_in_any K with_node.nodes v ≡ true → stands_in_any K with_node.nodes w ≡ true → with_node.types v ≡ with_node.types w → v ≡ w
  apart K own v w h i e = elim (which K own v h) [
    | inl p ↦ elim (which K own w i) [
      | inl q ↦ at.apart own_a.0 own_a.1 v w p.stands q.stands (sym (older v p.inside) ∙ e ∙ older w q.inside)
      | inr (l, o, q, is) ↦ absurd (other l o v own_a.0 is own_a.1 p.stands (sym (older v p.inside) ∙ e ∙ ap with_node.types q ∙ at_own A.types n t))
    ]
    | inr (l, o, p, is) ↦ elim (which K own w i) [
      | inl q ↦ absurd (other l o w own_a.0 is own_a.1 q.stands (sym (older w q.inside) ∙ sym e ∙ ap with_node.types p ∙ at_own A.types n t))
      | inr (l', o', q, is') ↦ p ∙ sym q
    ]
  ]

  each : (K : Types) → IsOwn b.nodes K → (v l o : ℕ) → stands_in_any K with_node.nodes v ≡ true → slice_get b.nodes v ≡ Some (Var l o) → IsAssigned with_node.types A.older U' arity' o v
  each K own v l o h e = elim (which K own v h) [
    | inl p ↦ assigned_same (older v p.inside) more le (at.each own_a.0 own_a.1 v l o p.stands (sym (extends.node v p.inside) ∙ e))
    | inr (l', o', p, is) ↦
        let f : Var l o ≡ Var l' o' = one_element (Var l o) (Var l' o') (slice_get b.nodes v) e (ap (slice_get b.nodes) p ∙ made_here (state a.nodes s) (state b.nodes u) n c made ∙ ap (λ x. Some x) is) in
        let g : o' ≡ o = cc in
        subst (λ k. IsAssigned with_node.types A.older U' arity' k v) g (subst (IsAssigned with_node.types A.older U' arity' o') (sym p) (named l' o' is))
  ]

  opens : (m : ℕ) → IsIn with_node.nodes m → IsOpen F b m
  opens m (zero, e) = let f : n ≡ m = cc in subst (IsOpen F b) f open_node
  opens m (suc k, e) = open_next (λ r. open_node.reached) (λ r K own. refines_made a.nodes b.nodes K own (record { longer = extends.longer; node = extends.node })) (at.opens m (k, e))

  -- the assignment goes on to it
  pub made_on : Assigned F arity' U' a b A
  made_on = record {
    after = with_node;
    assigns = record {
      reached = open_node.reached;
      loose = loose_made (state a.nodes s) (state b.nodes u) n c at.reached.sound made A.types t at.loose fits;
      opens = opens;
      each = each;
      taken = λ k i. more k (at.taken k i);
      apart = apart;
    };
    same = older;
    keeps = λ m (k, e). (suc k, e);
    older = refl;
    longer = extends.longer;
    reads = λ V h. reading_before a.nodes b.nodes V extends h;
  }

  -- and it denotes its type
  pub made_to : AssignedTo F arity' U' a b A n t
  unfolding made_on
  made_to = record { on = made_on; denotes = record { known = (zero, refl); is = at_own A.types n t } }

no_end : (q : Path) (k : ℕ) → [] ≡ q ++ k ∷ [] → ⊥
no_end [] k e = absurd (cc)
no_end (j ∷ q) k e = absurd (cc)

-- the path of an unknown type ends with the number of one type expression
pub last_path : (o p : Path) (m n : ℕ) → o ++ m ∷ [] ≡ p ++ n ∷ [] → m ≡ n
last_path [] [] m n e = cc
last_path [] (k ∷ p) m n e = absurd (no_end p n (let f : [] ≡ p ++ n ∷ [] = cc in f))
last_path (k ∷ o) [] m n e = absurd (no_end o m (let f : o ++ m ∷ [] ≡ [] = cc in sym f))
last_path (k ∷ o) (j ∷ p) m n e = last_path o p m n (let f : o ++ m ∷ [] ≡ p ++ n ∷ [] = cc in f)

-- and what is in front of it is the same
pub same_front : (o p : Path) (n : ℕ) → o ++ n ∷ [] ≡ p ++ n ∷ [] → o ≡ p
same_front [] [] n e = refl
same_front [] (k ∷ p) n e = absurd (no_end p n (let f : [] ≡ p ++ n ∷ [] = cc in f))
same_front (k ∷ o) [] n e = absurd (no_end o n (let f : o ++ n ∷ [] ≡ [] = cc in sym f))
same_front (k ∷ o) (j ∷ p) n e = let f : k ≡ j = cc in let g = same_front o p n (let h : o ++ n ∷ [] ≡ p ++ n ∷ [] = cc in h) in (λ i. f i ∷ g i)

-- the only variable of a new variable is itself
itself : {a b : List Node} {s u : List Change} {n l o : ℕ} → Makes (state a s) (state b u) n (Var l o) → (K : Types) → IsOwn b K → (v : ℕ) → occurs v (K n) ≡ true → v ≡ n
itself {a} {b} {s} {u} {n} {l} {o} made K own v h = eqb-true v n (ap (occurs v) (sym (own.vars n l o (made_here (state a s) (state b u) n (Var l o) made))) ∙ h)

-- A parameter is made.
pub parameter_made : {F : Frame} {a b : Sight} {s u : List Change} {arity o n : ℕ} {U : List ℕ} {A : Assignment} → Assigns F arity U a A → o ≢ 0 → Makes (state a.nodes s) (state b.nodes u) n (Var F.level o) → OnlyNodes a b → AssignedTo F (suc arity) U a b A n (type.Var arity)
parameter_made {F} {a} {b} {s} {u} {arity} {o} {n} {U} {A} at scoped made rest =
    made_to (type.Var arity) at made (open_scoped o at.reached made rest) (λ k i. i) (omega arith) tt (λ K own v h. inr (F.level, o, itself made K own v h, refl))
    (λ l o' e. a_parameter arity (let f : o ≡ o' = cc in λ z. scoped (f ∙ z)) (omega arith) (at_own A.types n (type.Var arity)))
    (λ l o' v J e own h is. let x = in_any v J A.nodes h in let var = own.only x.node v (at.opens x.node (x.place, x.at)).inside x.occurs in no_other (at.each J own v var.level var.scope h var.at) is)
  where
    no_other : {v scope : ℕ} → IsAssigned A.types A.older U arity scope v → A.types v ≡ type.Var arity → ⊥
    no_other (a_parameter k scoped' lt is) e = let f : type.Var k ≡ type.Var arity = sym is ∙ e in let g : k ≡ arity = cc in omega arith
    no_other (an_unknown p m scope known i new is) e = let f : type.Con (p ++ m ∷ []) types.Nil ≡ type.Var arity = sym is ∙ e in cc

-- An unknown type of a further type expression is made.
pub unknown_made : {F : Frame} {a b : Sight} {s u : List Change} {arity n : ℕ} {U : List ℕ} {A : Assignment} (k : ℕ) → Assigns F arity U a A → (IsIn U k → ⊥) → Makes (state a.nodes s) (state b.nodes u) n (Var F.level 0) → OnlyNodes a b →
    AssignedTo F arity (k ∷ U) a b A n (unknown (k ∷ []))
unknown_made {F} {a} {b} {s} {u} {arity} {n} {U} {A} k at new_one made rest =
    made_to (unknown (k ∷ [])) at made (open_scoped 0 at.reached made rest) (λ j (i, e). (suc i, e)) (omega arith) tt (λ K own v h. inr (F.level, 0, itself made K own v h, refl))
    (λ l o e. an_unknown ((2 ^ 64 + 1) ∷ []) k (let f : 0 ≡ o = cc in sym f) refl (zero, refl) (λ i. new_one (at.taken k i)) (at_own A.types n (unknown (k ∷ []))))
    (λ l o v J e own h is. let x = in_any v J A.nodes h in let var = own.only x.node v (at.opens x.node (x.place, x.at)).inside x.occurs in no_other (at.each J own v var.level var.scope h var.at) is)
  where
    no_other : {v scope : ℕ} → IsAssigned A.types A.older U arity scope v → A.types v ≡ unknown (k ∷ []) → ⊥
    no_other (a_parameter j scoped lt is) e = let f : type.Var j ≡ unknown (k ∷ []) = sym is ∙ e in cc
    no_other (an_unknown p m scope known i new is) e =
        let f : type.Con (p ++ m ∷ []) types.Nil ≡ unknown (k ∷ []) = sym is ∙ e in
        let g : p ++ m ∷ [] ≡ ((2 ^ 64 + 1) ∷ []) ++ k ∷ [] = cc in
        new_one (subst (IsIn U) (last_path p ((2 ^ 64 + 1) ∷ []) m k g) i)

-- nodes that denote types are among those of the assignment, which has these types
pub all_known : {A : Assignment} {ms : List ℕ} {ts : List Typ} → AllDenote A ms ts → (k m : ℕ) → slice_get ms k ≡ Some m → IsIn A.nodes m
all_known none_denote k m e = absurd (cc)
all_known {A} (one_denotes {m = n} d ds) zero m e = let f : n ≡ m = cc in subst (IsIn A.nodes) f d.known
all_known (one_denotes d ds) (suc k) m e = all_known ds k m e

pub all_assigned : {A : Assignment} {ms : List ℕ} {ts : List Typ} → AllDenote A ms ts → map A.types ms ≡ ts
all_assigned none_denote = refl
all_assigned (one_denotes d ds) = let f = d.is in let g = all_assigned ds in (λ i. f i ∷ g i)

-- a variable of one of several types stands in their nodes
any_part : (K : Types) (ms : List ℕ) (v : ℕ) → occurs_any v (types_of (map K ms)) ≡ true → stands_in_any K ms v ≡ true
any_part K [] v h = h
any_part K (m ∷ ms) v h = elim (or_cases (occurs v (K m)) (occurs_any v (types_of (map K ms))) h) [
  | inl i ↦ or_left (occurs v (K m)) (stands_in_any K ms v) i
  | inr i ↦ or_right (occurs v (K m)) (stands_in_any K ms v) (any_part K ms v i)
]

-- A node over others is made.
node_made : {F : Frame} {a b : Sight} {s u : List Change} {arity n : ℕ} {U : List ℕ} {A : Assignment} (c : Node) (t : Typ) → Assigns F arity U a A → ((l o : ℕ) → c ≡ Var l o → ⊥) → ((k m : ℕ) → slice_get (parts c) k ≡ Some m → IsIn A.nodes m) → FitsLoosely (with_type A.types n t) n c →
    ((K : Types) → FitsLoosely K n c → (v : ℕ) → occurs v (K n) ≡ true → stands_in_any K (parts c) v ≡ true) → Makes (state a.nodes s) (state b.nodes u) n c → OnlyNodes a b → AssignedTo F arity U a b A n t
node_made {F} {a} {b} {s} {u} {n = n} {A = A} c t at isnt known fits inside made rest =
    made_to t at made (open_made at.reached isnt (λ k m e. at.opens m (known k m e)) made rest) (λ k i. i) (omega arith) fits
    (λ K own v h. let x = in_any v K (parts c) (inside K (own.loose.each n c (made_here (state a.nodes s) (state b.nodes u) n c made)) v h) in let (k, e) = known x.place x.node x.at in inl (any_in v K A.nodes k x.node e x.occurs))
    (λ l o e. absurd (isnt l o e)) (λ l o v J e own h is. isnt l o e)

-- the types of older nodes are the same
older_types : (S : Types) (n k : ℕ) (t : Typ) (ms : List ℕ) → n ≡ k → ((i m : ℕ) → slice_get ms i ≡ Some m → m < k) → map (with_type S n t) ms ≡ map S ms
older_types S n k t [] e inside = refl
older_types S n k t (m ∷ ms) e inside =
    let f : with_type S n t m ≡ S m = at_older S n t m (let lt = inside 0 m refl in omega arith) in
    let g = older_types S n k t ms e (λ i j at. inside (suc i) j at) in (λ i. f i ∷ g i)

-- nodes that are in the store, each
pub all_inside : (nodes : List Node) (ms : List ℕ) → ((k m : ℕ) → slice_get ms k ≡ Some m → m < length nodes) → All (IsNode nodes) ms
all_inside nodes [] h k d lt = absurd (omega arith)
all_inside nodes (m ∷ ms) h zero d lt = h 0 m refl
all_inside nodes (m ∷ ms) h (suc k) d lt = all_inside nodes ms (λ j x e. h (suc j) x e) k d (omega arith)

-- an arrow
pub arrow_denotes : {F : Frame} {a b : Sight} {s u : List Change} {arity x y n : ℕ} {U : List ℕ} {A : Assignment} {t v : Typ} → Assigns F arity U a A → Denotes A x t → Denotes A y v → Makes (state a.nodes s) (state b.nodes u) n (Arrow x y) → OnlyNodes a b →
    AssignedTo F arity U a b A n (type.Arrow t v)
arrow_denotes {F} {a} {b} {x = x} {y = y} {n = n} {A = A} {t = t} {v = v} at p q made rest =
    node_made (Arrow x y) (type.Arrow t v) at (λ l o e. absurd (cc)) (all_known (one_denotes p (one_denotes q none_denote))) (
    let f : with_type A.types n (type.Arrow t v) x ≡ t = at_older A.types n (type.Arrow t v) x (let e = made.added.number in let lt = (at.opens x p.known).inside in omega arith) ∙ p.is in
    let g : with_type A.types n (type.Arrow t v) y ≡ v = at_older A.types n (type.Arrow t v) y (let e = made.added.number in let lt = (at.opens y q.known).inside in omega arith) ∙ q.is in
    at_own A.types n (type.Arrow t v) ∙ sym (λ i. type.Arrow (f i) (g i)))
    (λ K is w h. elim (or_cases (occurs w (K x)) (occurs w (K y)) (ap (occurs w) (sym is) ∙ h)) [ inl i ↦ or_left (occurs w (K x)) (stands_in_any K (y ∷ []) w) i | inr i ↦ or_right (occurs w (K x)) (stands_in_any K (y ∷ []) w) (or_left (occurs w (K y)) false i) ]) made rest

-- a tuple
pub tuple_denotes : {F : Frame} {a b : Sight} {s u : List Change} {arity n : ℕ} {ms : List ℕ} {U : List ℕ} {A : Assignment} {ts : List Typ} → Assigns F arity U a A → AllDenote A ms ts → Makes (state a.nodes s) (state b.nodes u) n (Tuple ms) → OnlyNodes a b →
    AssignedTo F arity U a b A n (type.Tuple (types_of ts))
tuple_denotes {F} {a} {b} {n = n} {ms = ms} {A = A} {ts = ts} at all made rest =
    let t = type.Tuple (types_of ts) in
    node_made (Tuple ms) t at (λ l o e. absurd (cc)) (all_known all)
    (at_own A.types n t ∙ sym (ap (λ us. type.Tuple (types_of us)) (older_types A.types n (length a.nodes) t ms made.added.number (λ i m e. (at.opens m (all_known all i m e)).inside) ∙ all_assigned all)))
    (λ K is w h. any_part K ms w (ap (occurs w) (sym is) ∙ h)) made rest

-- a constructor
pub con_denotes : {F : Frame} {a b : Sight} {s u : List Change} {arity n : ℕ} {ms : List ℕ} {U : List ℕ} {A : Assignment} {ts : List Typ} (path : Path) (name : List ℕ) → Assigns F arity U a A → AllDenote A ms ts → Makes (state a.nodes s) (state b.nodes u) n (Con path name ms) → OnlyNodes a b →
    AssignedTo F arity U a b A n (type.Con path (types_of ts))
con_denotes {F} {a} {b} {n = n} {ms = ms} {A = A} {ts = ts} path name at all made rest =
    let t = type.Con path (types_of ts) in
    node_made (Con path name ms) t at (λ l o e. absurd (cc)) (all_known all)
    (at_own A.types n t ∙ sym (ap (λ us. type.Con path (types_of us)) (older_types A.types n (length a.nodes) t ms made.added.number (λ i m e. (at.opens m (all_known all i m e)).inside) ∙ all_assigned all)))
    (λ K is w h. any_part K ms w (ap (occurs w) (sym is) ∙ h)) made rest
