-- Texts as lists of tokens, and what the parser makes of them.
use Rattle.std.specs.Prelude.{ℕ, List, [], ◌∷◌, ◌++◌, codes}
use Rattle.token_model.specs.Kinds.{Tok, Kind, and_word, arrow, bar, colon, colon_equal, comma, else_word, end_word, fun_word, if_word, in_word, int, left_brace, left_bracket, left_paren, let_word, lower, match_word, module_word, mutable_word, nil, of_word, op12, op9, qualifier, rec_word, right_brace, right_bracket, right_paren, semi, sig_word, str, struct_word, then_word, true_word, ty_var, type_word, underscore, unit, upper, val_word, when_word, with_word}
use Rattle.tree_model.specs.Trees.{Tree, Forest, node, no_parts, part, taken, inner, missing}
use Rattle.grammar_model.specs.Named.{named}
use Rattle.grammar_model.specs.Ocaml.{program_text, grammar, row_name}
use Rattle.recovery_model.specs.Recovery.{recover}

-- a token from a byte to a byte
abbrev pub tok : Kind → ℕ → ℕ → List ℕ → Tok
tok k s e n = record { kind = k; start = s; end = e; col = s; name = n }

-- the nodes among parts
abbrev pub nodes_among : Forest → List Tree
nodes_among no_parts = []
nodes_among (part slot (taken t) ps) = nodes_among ps
nodes_among (part slot (inner t) ps) = t ∷ nodes_among ps
nodes_among (part slot (missing p) ps) = nodes_among ps

-- the items of a program
abbrev pub items_in : Tree → List Tree
items_in (node r x ps) = nodes_among ps

-- the items that the parser makes of tokens
abbrev pub parsed : List Tok → List Tree
parsed ts = items_in (named row_name (recover (grammar program_text) ts).0)

-- let id x = x
abbrev pub identity : List Tok
identity = tok let_word 0 3 (codes "let") ∷ tok lower 4 6 (codes "id") ∷ tok lower 7 8 (codes "x") ∷ tok op9 9 10 (codes "=") ∷ tok lower 11 12 (codes "x") ∷ []

-- let f x = if x then 1 else "a"
abbrev pub branches : List Tok
branches = tok let_word 0 3 (codes "let") ∷ tok lower 4 5 (codes "f") ∷ tok lower 6 7 (codes "x") ∷ tok op9 8 9 (codes "=") ∷ tok if_word 10 12 (codes "if") ∷ tok lower 13 14 (codes "x") ∷ tok then_word 15 19 (codes "then") ∷ tok int 20 21 (codes "1") ∷ tok else_word 22 26 (codes "else") ∷ tok str 27 30 (codes "\"a\"") ∷ []

-- let f x = x x
abbrev pub self_application : List Tok
self_application = tok let_word 0 3 (codes "let") ∷ tok lower 4 5 (codes "f") ∷ tok lower 6 7 (codes "x") ∷ tok op9 8 9 (codes "=") ∷ tok lower 10 11 (codes "x") ∷ tok lower 12 13 (codes "x") ∷ []

-- let r = ref []
abbrev pub reference : List Tok
reference = tok let_word 0 3 (codes "let") ∷ tok lower 4 5 (codes "r") ∷ tok op9 6 7 (codes "=") ∷ tok lower 8 11 (codes "ref") ∷ tok nil 12 14 (codes "[]") ∷ []

-- type t = { a : int; b : int } let r = { a = 1 }
abbrev pub missing_field : List Tok
missing_field = tok type_word 0 4 (codes "type") ∷ tok lower 5 6 (codes "t") ∷ tok op9 7 8 (codes "=") ∷ tok left_brace 9 10 (codes "{") ∷ tok lower 11 12 (codes "a") ∷ tok colon 13 14 (codes ":") ∷ tok lower 15 18 (codes "int") ∷ tok semi 18 19 (codes ";") ∷ tok lower 20 21 (codes "b") ∷ tok colon 22 23 (codes ":") ∷ tok lower 24 27 (codes "int") ∷ tok right_brace 28 29 (codes "}") ∷ tok let_word 30 33 (codes "let") ∷ tok lower 34 35 (codes "r") ∷ tok op9 36 37 (codes "=") ∷ tok left_brace 38 39 (codes "{") ∷ tok lower 40 41 (codes "a") ∷ tok op9 42 43 (codes "=") ∷ tok int 44 45 (codes "1") ∷ tok right_brace 46 47 (codes "}") ∷ []

-- type t = { a : int } let f { a } = a
abbrev pub punned_pattern : List Tok
punned_pattern = tok type_word 0 4 (codes "type") ∷ tok lower 5 6 (codes "t") ∷ tok op9 7 8 (codes "=") ∷ tok left_brace 9 10 (codes "{") ∷ tok lower 11 12 (codes "a") ∷ tok colon 13 14 (codes ":") ∷ tok lower 15 18 (codes "int") ∷ tok right_brace 19 20 (codes "}") ∷ tok let_word 21 24 (codes "let") ∷ tok lower 25 26 (codes "f") ∷ tok left_brace 27 28 (codes "{") ∷ tok lower 29 30 (codes "a") ∷ tok right_brace 31 32 (codes "}") ∷ tok op9 33 34 (codes "=") ∷ tok lower 35 36 (codes "a") ∷ []

-- type o = N | S of int let f (S x | N) = 1
abbrev pub one_sided : List Tok
one_sided = tok type_word 0 4 (codes "type") ∷ tok lower 5 6 (codes "o") ∷ tok op9 7 8 (codes "=") ∷ tok upper 9 10 (codes "N") ∷ tok bar 11 12 (codes "|") ∷ tok upper 13 14 (codes "S") ∷ tok of_word 15 17 (codes "of") ∷ tok lower 18 21 (codes "int") ∷ tok let_word 22 25 (codes "let") ∷ tok lower 26 27 (codes "f") ∷ tok left_paren 28 29 (codes "(") ∷ tok upper 29 30 (codes "S") ∷ tok lower 31 32 (codes "x") ∷ tok bar 33 34 (codes "|") ∷ tok upper 35 36 (codes "N") ∷ tok right_paren 36 37 (codes ")") ∷ tok op9 38 39 (codes "=") ∷ tok int 40 41 (codes "1") ∷ []

-- type a = b and b = b list
abbrev pub cyclic_types : List Tok
cyclic_types = tok type_word 0 4 (codes "type") ∷ tok lower 5 6 (codes "a") ∷ tok op9 7 8 (codes "=") ∷ tok lower 9 10 (codes "b") ∷ tok and_word 11 14 (codes "and") ∷ tok lower 15 16 (codes "b") ∷ tok op9 17 18 (codes "=") ∷ tok lower 19 20 (codes "b") ∷ tok lower 21 25 (codes "list") ∷ []

-- type t = A of int let x = A 1
abbrev pub constructed : List Tok
constructed = tok type_word 0 4 (codes "type") ∷ tok lower 5 6 (codes "t") ∷ tok op9 7 8 (codes "=") ∷ tok upper 9 10 (codes "A") ∷ tok of_word 11 13 (codes "of") ∷ tok lower 14 17 (codes "int") ∷ tok let_word 18 21 (codes "let") ∷ tok lower 22 23 (codes "x") ∷ tok op9 24 25 (codes "=") ∷ tok upper 26 27 (codes "A") ∷ tok int 28 29 (codes "1") ∷ []

-- let f x = match x with y when y -> 1 | _ -> 2
abbrev pub guarded : List Tok
guarded = tok let_word 0 3 (codes "let") ∷ tok lower 4 5 (codes "f") ∷ tok lower 6 7 (codes "x") ∷ tok op9 8 9 (codes "=") ∷ tok match_word 10 15 (codes "match") ∷ tok lower 16 17 (codes "x") ∷ tok with_word 18 22 (codes "with") ∷ tok lower 23 24 (codes "y") ∷ tok when_word 25 29 (codes "when") ∷ tok lower 30 31 (codes "y") ∷ tok arrow 32 34 (codes "->") ∷ tok int 35 36 (codes "1") ∷ tok bar 37 38 (codes "|") ∷ tok underscore 39 40 (codes "_") ∷ tok arrow 41 43 (codes "->") ∷ tok int 44 45 (codes "2") ∷ []

-- let rec f x = f x
abbrev pub recursive : List Tok
recursive = tok let_word 0 3 (codes "let") ∷ tok rec_word 4 7 (codes "rec") ∷ tok lower 8 9 (codes "f") ∷ tok lower 10 11 (codes "x") ∷ tok op9 12 13 (codes "=") ∷ tok lower 14 15 (codes "f") ∷ tok lower 16 17 (codes "x") ∷ []

-- module M : sig type t val x : t end = struct type t = int let x = 1 end
abbrev pub sealed : List Tok
sealed = tok module_word 0 6 (codes "module") ∷ tok upper 7 8 (codes "M") ∷ tok colon 9 10 (codes ":") ∷ tok sig_word 11 14 (codes "sig") ∷ tok type_word 15 19 (codes "type") ∷ tok lower 20 21 (codes "t") ∷ tok val_word 22 25 (codes "val") ∷ tok lower 26 27 (codes "x") ∷ tok colon 28 29 (codes ":") ∷ tok lower 30 31 (codes "t") ∷ tok end_word 32 35 (codes "end") ∷ tok op9 36 37 (codes "=") ∷ tok struct_word 38 44 (codes "struct") ∷ tok type_word 45 49 (codes "type") ∷ tok lower 50 51 (codes "t") ∷ tok op9 52 53 (codes "=") ∷ tok lower 54 57 (codes "int") ∷ tok let_word 58 61 (codes "let") ∷ tok lower 62 63 (codes "x") ∷ tok op9 64 65 (codes "=") ∷ tok int 66 67 (codes "1") ∷ tok end_word 68 71 (codes "end") ∷ []

-- module F (X : sig end) = struct type t = A end module E = struct end module P = F(E) module Q = F(E)
abbrev pub applied_twice : List Tok
applied_twice = tok module_word 0 6 (codes "module") ∷ tok upper 7 8 (codes "F") ∷ tok left_paren 9 10 (codes "(") ∷ tok upper 10 11 (codes "X") ∷ tok colon 12 13 (codes ":") ∷ tok sig_word 14 17 (codes "sig") ∷ tok end_word 18 21 (codes "end") ∷ tok right_paren 21 22 (codes ")") ∷ tok op9 23 24 (codes "=") ∷ tok struct_word 25 31 (codes "struct") ∷ tok type_word 32 36 (codes "type") ∷ tok lower 37 38 (codes "t") ∷ tok op9 39 40 (codes "=") ∷ tok upper 41 42 (codes "A") ∷ tok end_word 43 46 (codes "end") ∷ tok module_word 47 53 (codes "module") ∷ tok upper 54 55 (codes "E") ∷ tok op9 56 57 (codes "=") ∷ tok struct_word 58 64 (codes "struct") ∷ tok end_word 65 68 (codes "end") ∷ tok module_word 69 75 (codes "module") ∷ tok upper 76 77 (codes "P") ∷ tok op9 78 79 (codes "=") ∷ tok upper 80 81 (codes "F") ∷ tok left_paren 81 82 (codes "(") ∷ tok upper 82 83 (codes "E") ∷ tok right_paren 83 84 (codes ")") ∷ tok module_word 85 91 (codes "module") ∷ tok upper 92 93 (codes "Q") ∷ tok op9 94 95 (codes "=") ∷ tok upper 96 97 (codes "F") ∷ tok left_paren 97 98 (codes "(") ∷ tok upper 98 99 (codes "E") ∷ tok right_paren 99 100 (codes ")") ∷ []

-- module F (X : sig end) = struct let r = ref [] end
abbrev pub undetermined : List Tok
undetermined = tok module_word 0 6 (codes "module") ∷ tok upper 7 8 (codes "F") ∷ tok left_paren 9 10 (codes "(") ∷ tok upper 10 11 (codes "X") ∷ tok colon 12 13 (codes ":") ∷ tok sig_word 14 17 (codes "sig") ∷ tok end_word 18 21 (codes "end") ∷ tok right_paren 21 22 (codes ")") ∷ tok op9 23 24 (codes "=") ∷ tok struct_word 25 31 (codes "struct") ∷ tok let_word 32 35 (codes "let") ∷ tok lower 36 37 (codes "r") ∷ tok op9 38 39 (codes "=") ∷ tok lower 40 43 (codes "ref") ∷ tok nil 44 46 (codes "[]") ∷ tok end_word 47 50 (codes "end") ∷ []

-- module F (X : sig end) = struct end let y = F.x
abbrev pub behind_a_functor : List Tok
behind_a_functor = tok module_word 0 6 (codes "module") ∷ tok upper 7 8 (codes "F") ∷ tok left_paren 9 10 (codes "(") ∷ tok upper 10 11 (codes "X") ∷ tok colon 12 13 (codes ":") ∷ tok sig_word 14 17 (codes "sig") ∷ tok end_word 18 21 (codes "end") ∷ tok right_paren 21 22 (codes ")") ∷ tok op9 23 24 (codes "=") ∷ tok struct_word 25 31 (codes "struct") ∷ tok end_word 32 35 (codes "end") ∷ tok let_word 36 39 (codes "let") ∷ tok lower 40 41 (codes "y") ∷ tok op9 42 43 (codes "=") ∷ tok qualifier 44 46 (codes "F") ∷ tok lower 46 47 (codes "x") ∷ []

-- type t = t = A
abbrev pub naming_itself : List Tok
naming_itself = tok type_word 0 4 (codes "type") ∷ tok lower 5 6 (codes "t") ∷ tok op9 7 8 (codes "=") ∷ tok lower 9 10 (codes "t") ∷ tok op9 11 12 (codes "=") ∷ tok upper 13 14 (codes "A") ∷ []

-- type t = { a : int } let r = { a = 1 }
abbrev pub whole_record : List Tok
whole_record = tok type_word 0 4 (codes "type") ∷ tok lower 5 6 (codes "t") ∷ tok op9 7 8 (codes "=") ∷ tok left_brace 9 10 (codes "{") ∷ tok lower 11 12 (codes "a") ∷ tok colon 13 14 (codes ":") ∷ tok lower 15 18 (codes "int") ∷ tok right_brace 19 20 (codes "}") ∷ tok let_word 21 24 (codes "let") ∷ tok lower 25 26 (codes "r") ∷ tok op9 27 28 (codes "=") ∷ tok left_brace 29 30 (codes "{") ∷ tok lower 31 32 (codes "a") ∷ tok op9 33 34 (codes "=") ∷ tok int 35 36 (codes "1") ∷ tok right_brace 37 38 (codes "}") ∷ []

-- let f = let g = fun x -> x in (g 1, g "a")
abbrev pub used_twice : List Tok
used_twice = tok let_word 0 3 (codes "let") ∷ tok lower 4 5 (codes "f") ∷ tok op9 6 7 (codes "=") ∷ tok let_word 8 11 (codes "let") ∷ tok lower 12 13 (codes "g") ∷ tok op9 14 15 (codes "=") ∷ tok fun_word 16 19 (codes "fun") ∷ tok lower 20 21 (codes "x") ∷ tok arrow 22 24 (codes "->") ∷ tok lower 25 26 (codes "x") ∷ tok in_word 27 29 (codes "in") ∷ tok left_paren 30 31 (codes "(") ∷ tok lower 31 32 (codes "g") ∷ tok int 33 34 (codes "1") ∷ tok comma 34 35 (codes ",") ∷ tok lower 36 37 (codes "g") ∷ tok str 38 41 (codes "\"a\"") ∷ tok right_paren 41 42 (codes ")") ∷ []

-- let r = ref [] type t = A let () = r := [A]
abbrev pub later_type : List Tok
later_type = tok let_word 0 3 (codes "let") ∷ tok lower 4 5 (codes "r") ∷ tok op9 6 7 (codes "=") ∷ tok lower 8 11 (codes "ref") ∷ tok nil 12 14 (codes "[]") ∷ tok type_word 15 19 (codes "type") ∷ tok lower 20 21 (codes "t") ∷ tok op9 22 23 (codes "=") ∷ tok upper 24 25 (codes "A") ∷ tok let_word 26 29 (codes "let") ∷ tok unit 30 32 (codes "()") ∷ tok op9 33 34 (codes "=") ∷ tok lower 35 36 (codes "r") ∷ tok colon_equal 37 39 (codes ":=") ∷ tok left_bracket 40 41 (codes "[") ∷ tok upper 41 42 (codes "A") ∷ tok right_bracket 42 43 (codes "]") ∷ []

-- type t = A of int let x = A 1 2
abbrev pub two_arguments : List Tok
two_arguments = tok type_word 0 4 (codes "type") ∷ tok lower 5 6 (codes "t") ∷ tok op9 7 8 (codes "=") ∷ tok upper 9 10 (codes "A") ∷ tok of_word 11 13 (codes "of") ∷ tok lower 14 17 (codes "int") ∷ tok let_word 18 21 (codes "let") ∷ tok lower 22 23 (codes "x") ∷ tok op9 24 25 (codes "=") ∷ tok upper 26 27 (codes "A") ∷ tok int 28 29 (codes "1") ∷ tok int 30 31 (codes "2") ∷ []

-- module M : sig val a : int val b : string end = struct let a = 1 end let c = M.b
abbrev pub absent_component : List Tok
absent_component = tok module_word 0 6 (codes "module") ∷ tok upper 7 8 (codes "M") ∷ tok colon 9 10 (codes ":") ∷ tok sig_word 11 14 (codes "sig") ∷ tok val_word 15 18 (codes "val") ∷ tok lower 19 20 (codes "a") ∷ tok colon 21 22 (codes ":") ∷ tok lower 23 26 (codes "int") ∷ tok val_word 27 30 (codes "val") ∷ tok lower 31 32 (codes "b") ∷ tok colon 33 34 (codes ":") ∷ tok lower 35 41 (codes "string") ∷ tok end_word 42 45 (codes "end") ∷ tok op9 46 47 (codes "=") ∷ tok struct_word 48 54 (codes "struct") ∷ tok let_word 55 58 (codes "let") ∷ tok lower 59 60 (codes "a") ∷ tok op9 61 62 (codes "=") ∷ tok int 63 64 (codes "1") ∷ tok end_word 65 68 (codes "end") ∷ tok let_word 69 72 (codes "let") ∷ tok lower 73 74 (codes "c") ∷ tok op9 75 76 (codes "=") ∷ tok qualifier 77 79 (codes "M") ∷ tok lower 79 80 (codes "b") ∷ []

-- type 'a ref = { mutable contents : 'a } val ref : 'a -> 'a ref, a signature
abbrev pub short_prelude : List Tok
short_prelude = tok type_word 0 4 (codes "type") ∷ tok ty_var 5 7 (codes "'a") ∷ tok lower 8 11 (codes "ref") ∷ tok op9 12 13 (codes "=") ∷ tok left_brace 14 15 (codes "{") ∷ tok mutable_word 16 23 (codes "mutable") ∷ tok lower 24 32 (codes "contents") ∷ tok colon 33 34 (codes ":") ∷ tok ty_var 35 37 (codes "'a") ∷ tok right_brace 38 39 (codes "}") ∷ tok val_word 40 43 (codes "val") ∷ tok lower 44 47 (codes "ref") ∷ tok colon 48 49 (codes ":") ∷ tok ty_var 50 52 (codes "'a") ∷ tok arrow 53 55 (codes "->") ∷ tok ty_var 56 58 (codes "'a") ∷ tok lower 59 62 (codes "ref") ∷ []

-- module M : sig type t val x : t end = struct type t = int let x = 1 end let y = M.x + 1
abbrev pub sealed_type : List Tok
sealed_type = tok module_word 0 6 (codes "module") ∷ tok upper 7 8 (codes "M") ∷ tok colon 9 10 (codes ":") ∷ tok sig_word 11 14 (codes "sig") ∷ tok type_word 15 19 (codes "type") ∷ tok lower 20 21 (codes "t") ∷ tok val_word 22 25 (codes "val") ∷ tok lower 26 27 (codes "x") ∷ tok colon 28 29 (codes ":") ∷ tok lower 30 31 (codes "t") ∷ tok end_word 32 35 (codes "end") ∷ tok op9 36 37 (codes "=") ∷ tok struct_word 38 44 (codes "struct") ∷ tok type_word 45 49 (codes "type") ∷ tok lower 50 51 (codes "t") ∷ tok op9 52 53 (codes "=") ∷ tok lower 54 57 (codes "int") ∷ tok let_word 58 61 (codes "let") ∷ tok lower 62 63 (codes "x") ∷ tok op9 64 65 (codes "=") ∷ tok int 66 67 (codes "1") ∷ tok end_word 68 71 (codes "end") ∷ tok let_word 72 75 (codes "let") ∷ tok lower 76 77 (codes "y") ∷ tok op9 78 79 (codes "=") ∷ tok qualifier 80 82 (codes "M") ∷ tok lower 82 83 (codes "x") ∷ tok op12 84 85 (codes "+") ∷ tok int 86 87 (codes "1") ∷ []

-- let f x = match x with true -> 1
abbrev pub missed_value : List Tok
missed_value = tok let_word 0 3 (codes "let") ∷ tok lower 4 5 (codes "f") ∷ tok lower 6 7 (codes "x") ∷ tok op9 8 9 (codes "=") ∷ tok match_word 10 15 (codes "match") ∷ tok lower 16 17 (codes "x") ∷ tok with_word 18 22 (codes "with") ∷ tok true_word 23 27 (codes "true") ∷ tok arrow 28 30 (codes "->") ∷ tok int 31 32 (codes "1") ∷ []

-- let f (C x) = x
abbrev pub unbound_pattern : List Tok
unbound_pattern = tok let_word 0 3 (codes "let") ∷ tok lower 4 5 (codes "f") ∷ tok left_paren 6 7 (codes "(") ∷ tok upper 7 8 (codes "C") ∷ tok lower 9 10 (codes "x") ∷ tok right_paren 10 11 (codes ")") ∷ tok op9 12 13 (codes "=") ∷ tok lower 14 15 (codes "x") ∷ []

-- let y = C 1
abbrev pub unbound_applied : List Tok
unbound_applied = tok let_word 0 3 (codes "let") ∷ tok lower 4 5 (codes "y") ∷ tok op9 6 7 (codes "=") ∷ tok upper 8 9 (codes "C") ∷ tok int 10 11 (codes "1") ∷ []

-- module U = X let y = U.C 1 2
abbrev pub in_an_unknown_module : List Tok
in_an_unknown_module = tok module_word 0 6 (codes "module") ∷ tok upper 7 8 (codes "U") ∷ tok op9 9 10 (codes "=") ∷ tok upper 11 12 (codes "X") ∷ tok let_word 13 16 (codes "let") ∷ tok lower 17 18 (codes "y") ∷ tok op9 19 20 (codes "=") ∷ tok qualifier 21 23 (codes "U") ∷ tok upper 23 24 (codes "C") ∷ tok int 25 26 (codes "1") ∷ tok int 27 28 (codes "2") ∷ []

-- module F (X : sig end) = struct type t = A end module E = struct end module P = F(E) module Q = F(E) let l = [P.A; Q.A]
abbrev pub two_of_one : List Tok
two_of_one = applied_twice ++ tok let_word 101 104 (codes "let") ∷ tok lower 105 106 (codes "l") ∷ tok op9 107 108 (codes "=") ∷ tok left_bracket 109 110 (codes "[") ∷ tok qualifier 110 112 (codes "P") ∷ tok upper 112 113 (codes "A") ∷ tok semi 113 114 (codes ";") ∷ tok qualifier 115 117 (codes "Q") ∷ tok upper 117 118 (codes "A") ∷ tok right_bracket 118 119 (codes "]") ∷ []
