-- The frame of a declaration between items: what is known at its start.
use Rattle.std.proofs.Common.{◌≡◌, ◌∙◌, ℕ, zero, suc, ◌<◌, Bool, true, false, List, [], ◌∷◌, length, Option, Some, refl, sym, ap, subst, arith, inl, inr, if◌then◌else◌}
use Rattle.std.specs.Prelude.{slice_get}
use Rattle.type_model.specs.Types.{Typ, occurs}
use Rattle.type_model.specs.Schemes.{Scheme}
use Rattle.type_model.proofs.Applying.{or_cases, apply_leaves}
use Rattle.signature_model.specs.Declarations as rules
use Rattle.signature_model.specs.Entries.{Environment}
use Rattle.typing_laws.proofs.Bools.{no_yes}
use Rattle.type_nodes.specs.Nodes.{Node, Var, bound_level, IsSound}
use Rattle.type_nodes.specs.Readings.{Types}
use Rattle.level_unify.specs.Solutions.{Loose}
use Rattle.level_unify.specs.Instances.{is_bound}
use Rattle.level_unify.proofs.Variants.{bound_cell, bound_there}
use Rattle.env_table.specs.declared.entries.Constructor.{Constructor}
use Rattle.env_table.specs.declared.entries.Entry.{Entry}
use Rattle.env_table.specs.declared.entries.Shape.{Shape}
use Rattle.typing_conditions.specs.Locals.{IsOwn, stands_in_any, all_pass, IsContext}
use Rattle.typing_conditions.specs.Standing.{IsIn}
use Rattle.typing_conditions.specs.Environments.{EnvAs}
use Rattle.typing_conditions.specs.Declared.{RootAs, ConstructorAs, LabelAs, OneByOne, no_more, one_more, ShapeAs, tell_nothing, tell_constructors, tell_labels, DeclaredAs}
use Rattle.typing_conditions.specs.Sights.{Sight}
use Rattle.typing_conditions.specs.Frames.{Frame, IsFrame, Reaches, IsOpen}
use Rattle.typing_conditions.proofs.Regions.{in_any, passes, passed}
use Rattle.typing_conditions.proofs.Steps.{same_node}
use Rattle.typing_conditions.proofs.Roots.{named_bound}
use Rattle.typing_conditions.proofs.Environments.{env_map}
use Rattle.typing_conditions.proofs.Instances.{root_within}
use Rattle.typing_conditions.proofs.Framing.{reached_start}
use Rattle.typing_rows.proofs.Surrounding.{known_by, declared_known}
use Rattle.declared_rows.specs.Assignments.{Assignment, Assigns, IsDeclaring}
use Rattle.declared_rows.specs.Contracts.{KnownAs, KnowsTypes}

-- whether all variables in a root are bound
abbrev is_closed : List Node → Types → ℕ → Bool
is_closed nodes I r = all_pass (is_bound nodes) (I r)

-- those of some roots
abbrev pub closed_of : List Node → Types → List ℕ → List ℕ
closed_of nodes I [] = []
closed_of nodes I (r ∷ rs) = if is_closed nodes I r then r ∷ closed_of nodes I rs else closed_of nodes I rs

-- each of these is one of the roots, and closed
closed_in : (nodes : List Node) (I : Types) (rs : List ℕ) (k r : ℕ) → slice_get (closed_of nodes I rs) k ≡ Some r → IsIn rs r × (is_closed nodes I r ≡ true)
closed_in nodes I [] k r e = absurd (cc)
closed_in nodes I (s ∷ rs) k r e = by (λ j f. closed_in nodes I rs j r f) (is_closed nodes I s) refl k e
  where
    later : IsIn rs r × (is_closed nodes I r ≡ true) → IsIn (s ∷ rs) r × (is_closed nodes I r ≡ true)
    later ((i, g), h) = ((suc i, g), h)

    by : ((j : ℕ) → slice_get (closed_of nodes I rs) j ≡ Some r → IsIn rs r × (is_closed nodes I r ≡ true)) → (b : Bool) → is_closed nodes I s ≡ b → (j : ℕ) → slice_get (if b then s ∷ closed_of nodes I rs else closed_of nodes I rs) j ≡ Some r → IsIn (s ∷ rs) r × (is_closed nodes I r ≡ true)
    by more true h zero f = let g : s ≡ r = cc in ((zero, f), ap (is_closed nodes I) (sym g) ∙ h)
    by more true h (suc j) f = later (more j f)
    by more false h j f = later (more j f)

-- and each closed root is one of these
in_closed : (nodes : List Node) (I : Types) (rs : List ℕ) (k r : ℕ) → slice_get rs k ≡ Some r → is_closed nodes I r ≡ true → IsIn (closed_of nodes I rs) r
in_closed nodes I [] k r e h = absurd (cc)
in_closed nodes I (s ∷ rs) zero r e h = let g : s ≡ r = cc in subst (λ (b : Bool). IsIn (if b then s ∷ closed_of nodes I rs else closed_of nodes I rs) r) (sym (ap (is_closed nodes I) g ∙ h)) (zero, e)
in_closed nodes I (s ∷ rs) (suc k) r e h = by (is_closed nodes I s) (in_closed nodes I rs k r e h)
  where
    by : (b : Bool) → IsIn (closed_of nodes I rs) r → IsIn (if b then s ∷ closed_of nodes I rs else closed_of nodes I rs) r
    by true (i, f) = (suc i, f)
    by false (i, f) = (i, f)

-- the frame of a declaration that starts at a state: its roots are a node without variables and the closed ones of the names in scope
abbrev pub declaring_frame : Sight → Types → List ℕ → ℕ → Frame
declaring_frame a I roots n = record { start = a.nodes; types = I; roots = n ∷ closed_of a.nodes I roots; held = λ k. []; level = 1; owner = a.item; known = false }

module _ (a : Sight) (I : Types) (own : IsOwn a.nodes I) (roots : List ℕ) (inside : (k r : ℕ) → slice_get roots k ≡ Some r → r < length a.nodes) (n : ℕ) (n_inside : n < length a.nodes) (none : (v : ℕ) → occurs v (I n) ≡ true → ⊥) where
  abbrev F : Frame
  F = declaring_frame a I roots n

  bound_in : (v : ℕ) → stands_in_any I F.roots v ≡ true → (scope : ℕ) × (slice_get a.nodes v ≡ Some (Var bound_level scope))
  bound_in v h = by (in_any v I F.roots h).place (in_any v I F.roots h).node (in_any v I F.roots h).at (in_any v I F.roots h).occurs
    where
      by : (k r : ℕ) → slice_get F.roots k ≡ Some r → occurs v (I r) ≡ true → (scope : ℕ) × (slice_get a.nodes v ≡ Some (Var bound_level scope))
      by zero r e o = let f : n ≡ r = cc in absurd (none v (ap (λ m. occurs v (I m)) f ∙ o))
      by (suc k) r e o = let (i, closed) = closed_in a.nodes I roots k r e in bound_cell a.nodes v (passed (is_bound a.nodes) (I r) v closed o)

  roots_inside : (k r : ℕ) → slice_get F.roots k ≡ Some r → r < length a.nodes
  roots_inside zero r e = let f : n ≡ r = cc in subst (λ m. m < length a.nodes) f n_inside
  roots_inside (suc k) r e = let ((i, f), closed) = closed_in a.nodes I roots k r e in inside i r f

  pub context_at : (level : ℕ) → IsContext a.nodes I F.roots level
  context_at level = record { inside = roots_inside; low = λ v l o h e free. let (scope, f) = bound_in v h in absurd (free (same_node a.nodes v l o bound_level scope e f)) }

  pub declaring : IsDeclaring F
  declaring = record { level = refl; held = λ k m (i, e). absurd (cc); bound = bound_in }

  frame_is : IsFrame F
  frame_is = record { own = own; context = context_at 1; free = omega arith }

  -- the first assignment, in which the node denotes its own type
  abbrev pub first_assignment : List ℕ → Assignment
  first_assignment older = record { types = I; nodes = n ∷ []; older = older }

  pub first_assigns : (older : List ℕ) (b : Sight) → b.nodes ≡ a.nodes → b.level ≡ 1 → IsSound a.nodes → Assigns F 0 older b (first_assignment older)
  first_assigns older b nodes level sound = record {
    reached = reached;
    loose = subst (λ ns. Loose ns I) (sym nodes) own.loose;
    opens = λ m (k, e). by k m e;
    each = λ J own_j v l o h e. absurd (no_var J own_j v h);
    taken = λ k i. i;
    apart = λ J own_j v w h i e. absurd (no_var J own_j v h);
  }
    where
      reached : Reaches F b
      reached = reached_start b frame_is nodes level sound

      same : (J : Types) → IsOwn b.nodes J → J n ≡ I n
      same J own_j = own.comes J (subst (λ ns. Loose ns J) nodes own_j.loose) n ∙ apply_leaves J (I n) (λ v o. absurd (none v o))

      no_var : (J : Types) → IsOwn b.nodes J → (v : ℕ) → stands_in_any J (n ∷ []) v ≡ true → ⊥
      no_var J own_j v h = elim (or_cases (occurs v (J n)) false h) [ inl o ↦ none v (ap (occurs v) (sym (same J own_j)) ∙ o) | inr o ↦ absurd (no_yes o) ]

      open_n : IsOpen F b n
      open_n = record {
        reached = reached;
        inside = subst (λ ns. n < length ns) (sym nodes) n_inside;
        within = root_within a.nodes F.roots 0 n refl;
        free = λ J own_j v o. absurd (none v (ap (occurs v) (sym (same J own_j)) ∙ o));
      }

      by : (k m : ℕ) → slice_get (n ∷ []) k ≡ Some m → IsOpen F b m
      by zero m e = let f : n ≡ m = cc in subst (IsOpen F b) f open_n
      by (suc k) m e = absurd (cc)

  -- a root of a declaration is one of the frame's
  root_among : {N : Types} {k r : ℕ} {t : Typ} → RootAs a.nodes roots N k r t → RootAs a.nodes F.roots N k r t
  root_among {r = r} root = record {
    inside = root.inside;
    among = let (i, e) = root.among in let (j, f) = in_closed a.nodes I roots i r e (passes (is_bound a.nodes) (I r) (λ v o. let (scope, g) = named_bound (root.named I own v o) in bound_there a.nodes v (Var bound_level scope) g refl)) in (suc j, f);
    known = root.known;
    is = root.is;
    named = root.named;
    apart = root.apart;
  }

  one_by_one : {A B : Type 0} {P Q : A → B → Type 0} → ((x : A) (y : B) → P x y → Q x y) → {xs : List A} {ys : List B} → OneByOne P xs ys → OneByOne Q xs ys
  one_by_one h no_more = no_more
  one_by_one h (one_more {x = x} {y = y} p ps) = one_more (h x y p) (one_by_one h ps)

  shape_among : {N : Types} {k : ℕ} {owner : Typ} {s : Shape} {z : rules.Shape} → ShapeAs a.nodes roots N k owner s z → ShapeAs a.nodes F.roots N k owner s z
  shape_among (tell_nothing e) = tell_nothing e
  shape_among {N} {k} {owner} (tell_constructors e cs) =
      tell_constructors e (one_by_one {P = ConstructorAs a.nodes roots N k owner} {Q = ConstructorAs a.nodes F.roots N k owner} (λ c q h. record { name = h.name; makes = record { takes = h.makes.takes; root = root_among h.makes.root } }) cs)
  shape_among {N} {k} {owner} (tell_labels e ls) =
      tell_labels e (one_by_one {P = LabelAs a.nodes roots N k owner} {Q = LabelAs a.nodes F.roots N k owner} (λ l q h. record { name = h.name; mutable = h.mutable; root = root_among h.root }) ls)

  -- The names of types are known among the frame's roots.
  pub knows_types : {R : ℕ → Scheme → Type 0} {X : Constructor → Option Typ → Type 0} (N : Types) {env : List Entry} {E : Environment} → EnvAs R (DeclaredAs a.nodes roots N) X env E → KnowsTypes F (known_by N I) env
  knows_types {R} {X} N {E = E} h = record {
    names = N;
    environment = E;
    entries = env_map R (λ (r : ℕ) (sc : Scheme). Unit {0}) (DeclaredAs a.nodes roots N) (KnownAs a.nodes F.roots N (known_by N I)) X (λ (x : Constructor) (o : Option Typ). Unit {0}) (λ r sc p. tt) (λ d e p. (record { arity = p.arity; origin = p.origin; defines = p.defines; root = root_among p.root; shape = shape_among p.shape }, (declared_known own p).1)) (λ x o p. tt) h;
  }
