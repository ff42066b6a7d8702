-- Tests of conditions, from which it follows that they hold where all demands are kept.
use Rattle.std.proofs.Common.{◌≡◌, ◌==◌, Bool, true, false, ◌&&◌, List, [], ◌∷◌, refl, ◌∙◌, ap}
use Rattle.std.proofs.lemmas.Bool.{eqb-true}
use Rattle.type_model.specs.Types.{Path, Typ, Typs, Var, Arrow, Tuple, Con, Nil, Cons}
use Rattle.typing_model.specs.Demands.{Demand, equal, test, agrees, matches, closes, Condition, same, instance, made, known, demand, treated, AllHold}
use Rattle.typing_model.specs.First.{every_site}

pub both : (a b : Bool) → (a && b) ≡ true → (a ≡ true) × (b ≡ true)
both true b h = (refl, h)
both false b h = absurd (cc)

-- whether two types are one
abbrev one_path : Path → Path → Bool
one_path [] [] = true
one_path (a ∷ p) (b ∷ q) = a == b && one_path p q
one_path _ _ = false

path_one : (p q : Path) → one_path p q ≡ true → p ≡ q
path_one [] [] h = refl
path_one [] (b ∷ q) h = absurd (cc)
path_one (a ∷ p) [] h = absurd (cc)
path_one (a ∷ p) (b ∷ q) h = let r = both (a == b) (one_path p q) h in ap (λ x. x ∷ p) (eqb-true a b r.0) ∙ ap (λ x. b ∷ x) (path_one p q r.1)

abbrev mutual
  pub one_type : Typ → Typ → Bool
  one_type (Var v) (Var w) = v == w
  one_type (Arrow a b) (Arrow c d) = one_type a c && one_type b d
  one_type (Tuple ts) (Tuple us) = one_types ts us
  one_type (Con o ts) (Con p us) = one_path o p && one_types ts us
  one_type _ _ = false

  pub one_types : Typs → Typs → Bool
  one_types Nil Nil = true
  one_types (Cons t ts) (Cons u us) = one_type t u && one_types ts us
  one_types _ _ = false

mutual
  pub type_one : (t u : Typ) → one_type t u ≡ true → t ≡ u
  type_one (Var v) (Var w) h = ap Var (eqb-true v w h)
  type_one (Arrow a b) (Arrow c d) h = let r = both (one_type a c) (one_type b d) h in ap (λ x. Arrow x b) (type_one a c r.0) ∙ ap (Arrow c) (type_one b d r.1)
  type_one (Tuple ts) (Tuple us) h = ap Tuple (types_one ts us h)
  type_one (Con o ts) (Con p us) h = let r = both (one_path o p) (one_types ts us) h in ap (λ x. Con x ts) (path_one o p r.0) ∙ ap (Con p) (types_one ts us r.1)
  type_one (Var v) (Arrow c d) h = absurd (cc)
  type_one (Var v) (Tuple us) h = absurd (cc)
  type_one (Var v) (Con p us) h = absurd (cc)
  type_one (Arrow a b) (Var w) h = absurd (cc)
  type_one (Arrow a b) (Tuple us) h = absurd (cc)
  type_one (Arrow a b) (Con p us) h = absurd (cc)
  type_one (Tuple ts) (Var w) h = absurd (cc)
  type_one (Tuple ts) (Arrow c d) h = absurd (cc)
  type_one (Tuple ts) (Con p us) h = absurd (cc)
  type_one (Con o ts) (Var w) h = absurd (cc)
  type_one (Con o ts) (Arrow c d) h = absurd (cc)
  type_one (Con o ts) (Tuple us) h = absurd (cc)

  pub types_one : (ts us : Typs) → one_types ts us ≡ true → ts ≡ us
  types_one Nil Nil h = refl
  types_one (Cons t ts) (Cons u us) h = let r = both (one_type t u) (one_types ts us) h in ap (λ x. Cons x ts) (type_one t u r.0) ∙ ap (Cons u) (types_one ts us r.1)
  types_one Nil (Cons u us) h = absurd (cc)
  types_one (Cons t ts) Nil h = absurd (cc)

-- whether a demand is a test that holds, and whether conditions are such tests or equations that hold; none is a demand that a body closes
abbrev is_met : Demand → Bool
is_met (equal t u) = one_type t u
is_met (test c b) = b
is_met (agrees c n s t) = false
is_met (matches s t) = false
is_met (closes e s) = false

abbrev pub all_hold : List Condition → Bool
all_hold [] = true
all_hold (same t u ∷ cs) = one_type t u && all_hold cs
all_hold (instance s t ∷ cs) = false
all_hold (made n t ∷ cs) = false
all_hold (known t ∷ cs) = false
all_hold (demand s p d ∷ cs) = is_met d && all_hold cs
all_hold (treated n e ∷ cs) = all_hold cs

pub holding : (cs : List Condition) → all_hold cs ≡ true → AllHold every_site cs
holding [] h = tt
holding (same t u ∷ cs) h = let r = both (one_type t u) (all_hold cs) h in (type_one t u r.0, holding cs r.1)
holding (instance s t ∷ cs) h = absurd (cc)
holding (made n t ∷ cs) h = absurd (cc)
holding (known t ∷ cs) h = absurd (cc)
holding (demand s p (equal t u) ∷ cs) h = let r = both (one_type t u) (all_hold cs) h in ((λ k. type_one t u r.0), holding cs r.1)
holding (demand s p (test c b) ∷ cs) h = let r = both b (all_hold cs) h in ((λ k. r.0), holding cs r.1)
holding (demand s p (agrees c n x y) ∷ cs) h = absurd (cc)
holding (demand s p (matches x y) ∷ cs) h = absurd (cc)
holding (demand s p (closes e x) ∷ cs) h = absurd (cc)
holding (treated n e ∷ cs) h = (tt, holding cs h)
