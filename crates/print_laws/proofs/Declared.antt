-- Where nodes of one origin have one name for it, there are declared names for what is printed.
use Rattle.std.proofs.Common.{◌≡◌, ℕ, zero, suc, List, [], ◌∷◌, Some, inl, inr, refl, sym, ◌∙◌, ap}
use Rattle.std.specs.Prelude.{slice_get, if◌then◌else◌}
use Rattle.std.proofs.lemmas.Slice.Eq.{bytes_eq-Decides}
use Rattle.type_model.specs.Types.{Path}
use Rattle.type_model.specs.Origins.{same_path}
use Rattle.type_nodes.specs.Nodes.{Node, Var, Rigid, Link, Arrow, Tuple, Con}
use Rattle.type_nodes.specs.Links.{root}
use Rattle.type_print.specs.Texts.{Declares}
use Rattle.type_print.proofs.Ranks.{tells}
use Rattle.print_laws.specs.Named.{AreNamedOnce, name_among}

-- a node that has the name which is found for its origin
record HasName (o : Path) (nodes : List Node) : Type 0 where
  pub node : ℕ
  pub parts : List ℕ
  pub is : slice_get nodes node ≡ Some (Con o (name_among o nodes) parts)

-- it is there later in a list
later : (o : Path) (c : Node) (nodes : List Node) → name_among o (c ∷ nodes) ≡ name_among o nodes → HasName o nodes → HasName o (c ∷ nodes)
later o c nodes same h = record { node = suc h.node; parts = h.parts; is = h.is ∙ ap (λ x. Some (Con o x h.parts)) (sym same) }

-- where an origin has a node, some node has the name that is found
has_name : (o : Path) (x ms : List ℕ) (nodes : List Node) (n : ℕ) → slice_get nodes n ≡ Some (Con o x ms) → HasName o nodes
has_name o x ms [] n e = absurd (cc)
has_name o x ms (Var l s ∷ nodes) zero e = absurd (cc)
has_name o x ms (Var l s ∷ nodes) (suc n) e = later o (Var l s) nodes refl (has_name o x ms nodes n e)
has_name o x ms (Rigid ∷ nodes) zero e = absurd (cc)
has_name o x ms (Rigid ∷ nodes) (suc n) e = later o Rigid nodes refl (has_name o x ms nodes n e)
has_name o x ms (Link m ∷ nodes) zero e = absurd (cc)
has_name o x ms (Link m ∷ nodes) (suc n) e = later o (Link m) nodes refl (has_name o x ms nodes n e)
has_name o x ms (Arrow a b ∷ nodes) zero e = absurd (cc)
has_name o x ms (Arrow a b ∷ nodes) (suc n) e = later o (Arrow a b) nodes refl (has_name o x ms nodes n e)
has_name o x ms (Tuple ks ∷ nodes) zero e = absurd (cc)
has_name o x ms (Tuple ks ∷ nodes) (suc n) e = later o (Tuple ks) nodes refl (has_name o x ms nodes n e)
has_name o x ms (Con p y ks ∷ nodes) zero e =
    let path : p ≡ o = cc in
    let found : (if same_path o p then y else name_among o nodes) ≡ y = ap (λ b. if b then y else name_among o nodes) ((bytes_eq-Decides o p).1 (sym path)) in
    record { node = zero; parts = ks; is = (λ i. Some (Con (path i) (sym found i) ks)) }
has_name o x ms (Con p y ks ∷ nodes) (suc n) e = elim (tells (same_path o p)) [
  | inl t ↦
      let path : o ≡ p = (bytes_eq-Decides o p).0 t in
      let found : (if same_path o p then y else name_among o nodes) ≡ y = ap (λ b. if b then y else name_among o nodes) t in
      record { node = zero; parts = ks; is = (λ i. Some (Con (sym path i) (sym found i) ks)) }
  | inr f ↦ later o (Con p y ks) nodes (ap (λ b. if b then y else name_among o nodes) f) (has_name o x ms nodes n e)
]

-- the names that nodes have are declared names for them
pub declares_so : (nodes : List Node) → AreNamedOnce nodes → Declares nodes (λ o. name_among o nodes)
declares_so nodes once n o x ms e = let h = has_name o x ms nodes (root nodes n) e in once.each h.node (root nodes n) o (name_among o nodes) x h.parts ms h.is e
