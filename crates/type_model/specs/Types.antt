-- Types, as finite trees without abbreviations (OCaml manual, 11.4; Damas and Milner 1982).
use Rattle.std.specs.Prelude.{ℕ, Bool, false, ◌||◌, ◌==◌, List, [], ◌∷◌}

-- where a type constructor was made; two constructors are one where their paths are equal
abbrev pub Path : Type 0
Path = List ℕ

mutual
  -- a type: a variable, an arrow, a tuple, or a constructor with its arguments
  pub data Typ : Type 0 where
    -- 'a
    Var : ℕ → Typ
    -- t -> u
    Arrow : Typ → Typ → Typ
    -- t * u
    Tuple : Typs → Typ
    -- (t, u) c
    Con : Path → Typs → Typ

  -- types in order: the parts of a tuple, or the arguments of a constructor
  pub data Typs : Type 0 where
    Nil : Typs
    Cons : Typ → Typs → Typs

-- the types of a list, in order
abbrev pub types_of : List Typ → Typs
types_of [] = Nil
types_of (t ∷ ts) = Cons t (types_of ts)

-- whether a variable stands in a type
abbrev mutual
  pub occurs : ℕ → Typ → Bool
  occurs v (Var w) = v == w
  occurs v (Arrow a b) = occurs v a || occurs v b
  occurs v (Tuple ts) = occurs_any v ts
  occurs v (Con o ts) = occurs_any v ts

  -- whether it stands in one of several types
  pub occurs_any : ℕ → Typs → Bool
  occurs_any v Nil = false
  occurs_any v (Cons t ts) = occurs v t || occurs_any v ts
