-- The type that is printed of a node is the node's own type, where no rigid variable stands in it: a rigid variable is printed as a variable, and its type is a constructor.
use Rattle.std.proofs.Common.{◌≡◌, ℕ, zero, suc, ◌<◌, List, [], ◌∷◌, length, map, get_or, Some, sym, ◌∙◌, ap, subst, arith}
use Rattle.std.specs.Prelude.{slice_get, All}
use Rattle.type_model.specs.Types.{types_of}
use Rattle.type_model.specs.Types.{Typ as type}
use Rattle.type_nodes.specs.Nodes.{Node, Var, Rigid, Link, Arrow, Tuple, Con, parts, IsSound}
use Rattle.type_nodes.specs.Readings.{Types}
use Rattle.type_nodes.proofs.Identity.{map_agree}
use Rattle.type_nodes.proofs.Roots.{of_link}
use Rattle.level_unify.specs.Walks.{StandsIn}
use Rattle.level_unify.proofs.Steps.{cell_at}
use Rattle.type_print.specs.Shown.{shown, shown_from}
use Rattle.type_print.proofs.Shown.{shown_step}
use Rattle.typing_conditions.specs.Locals.{IsOwn}
use Rattle.print_laws.specs.Rigid.{HasNoRigid, HaveNoRigid}

module _ (nodes : List Node) (sound : IsSound nodes) (I : Types) (own : IsOwn nodes I) where
  -- let P hold of the parts of each node of which it holds, and of no rigid variable
  module _ (P : ℕ → Type 0) (down : (n : ℕ) (c : Node) → slice_get nodes n ≡ Some c → P n → All P (parts c)) (never : (n : ℕ) → slice_get nodes n ≡ Some Rigid → P n → ⊥) where
    -- what is built of parts that are printed as their own types is printed so
    built_so : (n : ℕ) (c : Node) → slice_get nodes n ≡ Some c → P n → All (λ m. I m ≡ shown nodes m) (parts c) → I n ≡ shown_from (shown nodes) n (Some c)
    built_so n (Var level scope) e p h = own.vars n level scope e
    built_so n Rigid e p h = absurd (never n e p)
    built_so n (Link m) e p h = own.loose.each n (Link m) e ∙ of_link (λ k. I k ≡ shown nodes k) m h
    built_so n (Arrow a b) e p h =
        let x : I a ≡ shown nodes a = h zero zero (omega arith) in let y : I b ≡ shown nodes b = h 1 zero (omega arith) in
        own.loose.each n (Arrow a b) e ∙ (λ i. type.Arrow (x i) (y i))
    built_so n (Tuple ms) e p h = own.loose.each n (Tuple ms) e ∙ ap (λ ts. type.Tuple (types_of ts)) (map_agree I (shown nodes) ms h)
    built_so n (Con path name ms) e p h = own.loose.each n (Con path name ms) e ∙ ap (λ ts. type.Con path (types_of ts)) (map_agree I (shown nodes) ms h)

    own_below : (k n : ℕ) → sound.0 n < k → n < length nodes → P n → I n ≡ shown nodes n
    own_below zero n low inside p = absurd (omega arith)
    own_below (suc k) n low inside p =
        let (c, e) = cell_at nodes n inside in
        built_so n c e p (λ j d lt.
        let (there, less) = sound.1.each n c e j d lt in
        own_below k (get_or (parts c) j d) (omega arith) there (down n c e p j d lt))
        ∙ sym (shown_step nodes sound n c e)

    -- then a node of which it holds is printed as its own type
    pub own_where : (n : ℕ) → n < length nodes → P n → I n ≡ shown nodes n
    own_where n inside p = own_below (suc (sound.0 n)) n (omega arith) inside p

  -- no rigid variable stands in the parts of a type in which none does
  each_clean : (ms : List ℕ) → HaveNoRigid (types_of (map I ms)) → All (λ m. HasNoRigid (I m)) ms
  each_clean [] h = λ j d lt. absurd (omega arith)
  each_clean (m ∷ ms) h = at (each_clean ms h.1)
    where
      at : All (λ k. HasNoRigid (I k)) ms → All (λ k. HasNoRigid (I k)) (m ∷ ms)
      at rest zero d lt = h.0
      at rest (suc j) d lt = rest j d (omega arith)

  parts_clean : (n : ℕ) (c : Node) → slice_get nodes n ≡ Some c → HasNoRigid (I n) → All (λ m. HasNoRigid (I m)) (parts c)
  parts_clean n (Var level scope) e h = λ j d lt. absurd (omega arith)
  parts_clean n Rigid e h = λ j d lt. absurd (omega arith)
  parts_clean n (Link m) e h = each_clean (m ∷ []) (subst HasNoRigid (own.loose.each n (Link m) e) h, tt)
  parts_clean n (Arrow a b) e h = let both = subst HasNoRigid (own.loose.each n (Arrow a b) e) h in each_clean (a ∷ b ∷ []) (both.0, (both.1, tt))
  parts_clean n (Tuple ms) e h = each_clean ms (subst HasNoRigid (own.loose.each n (Tuple ms) e) h)
  parts_clean n (Con path name ms) e h = each_clean ms (subst HasNoRigid (own.loose.each n (Con path name ms) e) h).1

  -- a rigid variable's own type is one
  none_rigid : (n : ℕ) → slice_get nodes n ≡ Some Rigid → HasNoRigid (I n) → ⊥
  none_rigid n e h = let is = (subst HasNoRigid (own.loose.each n Rigid e) h).0 in absurd (cc)

  -- a node in whose own type no rigid variable stands is printed as that type
  pub own_shown : (n : ℕ) → n < length nodes → HasNoRigid (I n) → I n ≡ shown nodes n
  own_shown n inside h = own_where (λ m. HasNoRigid (I m)) parts_clean none_rigid n inside h

  -- so is each node where none is a rigid variable
  pub own_shown_all : ((n : ℕ) → slice_get nodes n ≡ Some Rigid → ⊥) → (n : ℕ) → n < length nodes → I n ≡ shown nodes n
  own_shown_all none n inside = own_where (λ m. Unit {0}) (λ m c e u j d lt. tt) (λ m e u. none m e) n inside tt

  -- and each node in which none stands
  pub own_shown_apart : (n : ℕ) → n < length nodes → ((v : ℕ) → StandsIn nodes v n → slice_get nodes v ≡ Some Rigid → ⊥) → I n ≡ shown nodes n
  own_shown_apart n inside none = own_where (λ m. (v : ℕ) → StandsIn nodes v m → slice_get nodes v ≡ Some Rigid → ⊥)
      (λ m c e apart j d lt v stands. apart v (record { each = λ F closed has. stands.each F closed (closed.each m c has e j d lt) }))
      (λ m e apart. apart m (record { each = λ F closed has. has }) e) n inside none
