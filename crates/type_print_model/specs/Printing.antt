-- The text of a type, for given names of its variables and constructors (OCaml manual, 11.4, for how it is spelled and where parentheses stand).
use Rattle.std.specs.Prelude.{◌≡◌, ℕ, nat_le, Bool, true, false, ◌||◌, List, [], ◌++◌, codes, length, take, if◌then◌else◌}
use Rattle.type_model.specs.Types.{Path, Typ, Typs, Var, Arrow, Tuple, Con, Nil, Cons}
use Rattle.type_model.specs.Origins.{same_path}
use Rattle.signature_model.specs.Declarations.{Name}
use Rattle.type_print_model.specs.Variables.{variables_of, variable_name}
use Rattle.type_print_model.specs.Paths.{Naming, IsNameOf}

-- where a type stands in another: by itself, left of an arrow, or as a part of a tuple or the one argument of a constructor
pub data Within : Type 0 where
  alone : Within
  left_of_arrow : Within
  inner : Within

-- whether an arrow stands in parentheses there
abbrev pub wraps_arrow : Within → Bool
wraps_arrow alone = false
wraps_arrow left_of_arrow = true
wraps_arrow inner = true

-- whether a tuple stands in parentheses there
abbrev pub wraps_tuple : Within → Bool
wraps_tuple alone = false
wraps_tuple left_of_arrow = false
wraps_tuple inner = true

-- a text, in parentheses where they are wanted
abbrev pub wrapped : Bool → List ℕ → List ℕ
wrapped true text = codes "(" ++ text ++ codes ")"
wrapped false text = text

-- the names of variables and of origins
pub record Names : Type 0 where
  pub variable : ℕ → List ℕ
  pub origin : Path → List ℕ

-- the text of a type that stands somewhere
abbrev mutual
  pub text_of : Names → Within → Typ → List ℕ
  text_of ns w (Var v) = ns.variable v
  text_of ns w (Arrow a b) = wrapped (wraps_arrow w) (text_of ns left_of_arrow a ++ codes " -> " ++ text_of ns alone b)
  text_of ns w (Tuple ts) = wrapped (wraps_tuple w) (separated ns inner (codes " * ") ts)
  text_of ns w (Con o ts) = arguments_of ns ts ++ ns.origin o

  -- several types with a text between them
  pub separated : Names → Within → List ℕ → Typs → List ℕ
  separated ns w between Nil = []
  separated ns w between (Cons t ts) = text_of ns w t ++ rest_of ns w between ts

  -- the types behind the first, each with the text in front of it
  pub rest_of : Names → Within → List ℕ → Typs → List ℕ
  rest_of ns w between Nil = []
  rest_of ns w between (Cons t ts) = between ++ text_of ns w t ++ rest_of ns w between ts

  -- the arguments in front of a constructor: none, one, or several in parentheses
  pub arguments_of : Names → Typs → List ℕ
  arguments_of ns Nil = []
  arguments_of ns (Cons t Nil) = text_of ns inner t ++ codes " "
  arguments_of ns (Cons t (Cons u us)) =
      codes "(" ++ text_of ns alone t ++ codes ", " ++ text_of ns alone u ++ rest_of ns alone (codes ", ") us ++ codes ") "

-- the most bytes of a text that are shown
abbrev pub most_shown : ℕ
most_shown = 4096

-- a longer text is cut there, and three points follow
abbrev pub cut : List ℕ → List ℕ
cut text = if nat_le (length text) most_shown then text else take most_shown text ++ codes "..."

-- whether an origin stands in a type
abbrev mutual
  pub mentions : Path → Typ → Bool
  mentions o (Var v) = false
  mentions o (Arrow a b) = mentions o a || mentions o b
  mentions o (Tuple ts) = mentions_any o ts
  mentions o (Con p ts) = same_path o p || mentions_any o ts

  -- whether it stands in one of several types
  pub mentions_any : Path → Typs → Bool
  mentions_any o Nil = false
  mentions_any o (Cons t ts) = mentions o t || mentions_any o ts

-- what a type is printed as in an environment, among types with these variables, in order, of which some are weak
pub record PrintsAmong {E : Type 0} (N : Naming E) (env : List E) (declared : Path → Name) (weak all : List ℕ) (t : Typ) (shown : List ℕ) : Type 0 where
  pub origin : Path → List ℕ
  pub named : (o : Path) → mentions o t ≡ true → IsNameOf N env declared o (origin o)
  pub text : shown ≡ cut (text_of (record { variable = variable_name weak all; origin = origin }) alone t)

-- what a type is printed as in an environment; the weak variables have names of their own
abbrev pub Prints : {E : Type 0} → Naming E → List E → (Path → Name) → List ℕ → Typ → List ℕ → Type 0
Prints N env declared weak t shown = PrintsAmong N env declared weak (variables_of t) t shown

-- what the two types of a message are printed as: their variables share their names, the first type first
abbrev pub PrintsTwo : {E : Type 0} → Naming E → List E → (Path → Name) → Typ → Typ → List ℕ → List ℕ → Type 0
PrintsTwo N env declared t u first second =
    PrintsAmong N env declared [] (variables_of t ++ variables_of u) t first × PrintsAmong N env declared [] (variables_of t ++ variables_of u) u second
