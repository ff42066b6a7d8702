-- Types for the nodes of some texts.
use Rattle.std.specs.Prelude.{ℕ, ◌==◌, false, List, [], ◌∷◌, codes, Some, if◌then◌else◌}
use Rattle.token_model.specs.Kinds.{lower}
use Rattle.type_model.specs.Types.{Typ, Var, Arrow, Tuple, Con, Nil, Cons}
use Rattle.signature_model.specs.Declarations.{Name, Own, Labels, Declaration, built_in, unknown}
use Rattle.typing_model.specs.BuiltIns.{int_type, bool_type, string_type, list_type}
use Rattle.typing_model.specs.Contexts.{Choice}
use Rattle.typing_model.specs.Parts.{Written}
use Rattle.model_checks.specs.Texts.{tok}
use Rattle.model_checks.specs.Typings.{first, second, choice_of}
use Rattle.model_checks.specs.Scopes.{ref_type}
use Rattle.model_checks.specs.Open.{of_node, of_letter}

-- let r = ref []: r, the application, ref, and []
abbrev pub reference_types : List (ℕ × Typ)
reference_types =
    (first 2, ref_type (list_type (Var 9))) ∷ (first 3, ref_type (list_type (Var 9))) ∷
    (first 4, Arrow (list_type (Var 9)) (ref_type (list_type (Var 9)))) ∷ (first 5, list_type (Var 9)) ∷ []

-- with what the application leaves open
abbrev pub reference_choice : Choice
reference_choice = choice_of reference_types (λ n k. if n == first 5 then Var 9 else if k == 0 then list_type (Var 9) else ref_type (list_type (Var 9)))

-- let id x = x: id, x, and x in the body
abbrev pub identity_types : List (ℕ × Typ)
identity_types = (first 2, Arrow (Var (first 3)) (Var (first 3))) ∷ (first 4, Var (first 3)) ∷ []

-- with letters that no row has
abbrev pub identity_choice : Choice
identity_choice = choice_of identity_types (λ n k. Var 0)

-- type t = { a : int } let r = { a = 1 }: the type that a has, r, the record, and 1
abbrev pub record_types : List (ℕ × Typ)
record_types = (first 5, int_type) ∷ (second 2, Con (first 1 ∷ []) Nil) ∷ (second 3, Con (first 1 ∷ []) Nil) ∷ (second 5, int_type) ∷ []

-- with letters that no row has
abbrev pub record_choice : Choice
record_choice = choice_of record_types (λ n k. Var 0)

-- type t = { a : u; b : u }, where u is an unknown type
abbrev pub two_of_unknown : Declaration
two_of_unknown = record {
  arity = 0;
  definition = Own (1 ∷ []);
  shape = Labels (record { name = codes "a"; place = built_in 0; is_mutable = false; body = unknown (2 ∷ []) } ∷ record { name = codes "b"; place = built_in 0; is_mutable = false; body = unknown (2 ∷ []) } ∷ []);
}

-- a label by its name alone
abbrev pub label_alone : Name → Written
label_alone n = record { qualifiers = []; last = Some (tok lower 0 1 n) }

-- an int for the unknown type at the node 2, and a string at any other
abbrev pub apart_choice : Choice
apart_choice = record (choice_of [] (λ n k. Var 0)) { filled = λ n o. if n == 2 then int_type else string_type }

-- let f = let g = fun x -> x in (g 1, g "a"): f, the whole, g, the function, x in its body; the pair in parentheses and without; the two applications, their heads and their arguments
abbrev pub pair_type : Typ
pair_type = Tuple (Cons int_type (Cons string_type Nil))

-- the types of its nodes
abbrev pub inner_types : List (ℕ × Typ)
inner_types =
    (first 2, pair_type) ∷ (first 3, pair_type) ∷ (first 5, Arrow (Var (first 7)) (Var (first 7))) ∷ (first 6, Arrow (Var (first 7)) (Var (first 7))) ∷ (first 8, Var (first 7)) ∷
    (first 9, pair_type) ∷ (first 10, pair_type) ∷
    (first 11, int_type) ∷ (first 12, Arrow int_type int_type) ∷ (first 13, int_type) ∷
    (first 14, string_type) ∷ (first 15, Arrow string_type string_type) ∷ (first 16, string_type) ∷ []

-- with what each application leaves open
abbrev pub inner_choice : Choice
inner_choice = choice_of inner_types (λ n k. if n == first 11 then int_type else string_type)

-- let r = ref []: the same with a variable of its own for what [] is a list of
abbrev pub reference_open : List (ℕ × Typ)
reference_open = (first 2, ref_type (list_type (Var (of_letter (first 5) 0)))) ∷ (first 3, ref_type (list_type (Var (of_letter (first 5) 0)))) ∷ (first 4, Arrow (list_type (Var (of_letter (first 5) 0))) (ref_type (list_type (Var (of_letter (first 5) 0))))) ∷ (first 5, list_type (Var (of_letter (first 5) 0))) ∷ []

-- the same with the variable of x its own
abbrev pub inner_open : List (ℕ × Typ)
inner_open =
    (first 2, pair_type) ∷ (first 3, pair_type) ∷ (first 5, Arrow (Var (of_node (first 7))) (Var (of_node (first 7)))) ∷ (first 6, Arrow (Var (of_node (first 7))) (Var (of_node (first 7)))) ∷ (first 8, Var (of_node (first 7))) ∷ (first 9, pair_type) ∷ (first 10, pair_type) ∷ (first 11, int_type) ∷ (first 12, Arrow int_type int_type) ∷ (first 13, int_type) ∷ (first 14, string_type) ∷ (first 15, Arrow string_type string_type) ∷ (first 16, string_type) ∷ []

-- type 'a ref = { mutable contents : 'a } val ref : 'a -> 'a ref: the type of contents, and those in the type of ref
abbrev pub prelude_choice : Choice
prelude_choice = choice_of ((5, Var 0) ∷ (7, Arrow (Var 0) (ref_type (Var 0))) ∷ (8, Var 0) ∷ (9, ref_type (Var 0)) ∷ (10, Var 0) ∷ []) (λ n k. Var 0)

-- let f x = match x with true -> 1: f, x, the match, its subject, the pattern, 1
abbrev pub match_types : List (ℕ × Typ)
match_types = (first 2, Arrow bool_type int_type) ∷ (first 3, bool_type) ∷ (first 4, int_type) ∷ (first 5, bool_type) ∷ (first 7, bool_type) ∷ (first 8, int_type) ∷ []
