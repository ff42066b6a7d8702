-- Kept demands as lists of sites, for some texts.
use Rattle.std.specs.Prelude.{Bool, List, [], ◌∷◌}
use Rattle.typing_model.specs.Demands.{Site, site}
use Rattle.typing_model.specs.Typings.{is_site_among}
use Rattle.model_checks.specs.Typings.{first, second, third, fourth, fifth}

-- the demands of these sites are kept
abbrev pub kept_at : List Site → Site → Bool
kept_at kept s = is_site_among s kept

-- let f x = if x then 1 else "a": the parameter, the name in the condition, the condition, the range of 1, the second branch, the name, the whole
abbrev pub branches_kept : List Site
branches_kept = site (first 3) 0 ∷ site (first 5) 0 ∷ site (first 4) 0 ∷ site (first 6) 0 ∷ site (first 2) 0 ∷ site (first 1) 1 ∷ []

-- let f x = x x: the parameter, the head, that it is an arrow, the argument, the name, the whole
abbrev pub self_application_kept : List Site
self_application_kept = site (first 3) 0 ∷ site (first 5) 0 ∷ site (first 4) 0 ∷ site (first 6) 0 ∷ site (first 2) 0 ∷ site (first 1) 1 ∷ []

-- let r = ref []: ref, that it is an arrow, [], the name, the whole
abbrev pub reference_kept : List Site
reference_kept = site (first 4) 0 ∷ site (first 3) 0 ∷ site (first 3) 1 ∷ site (first 2) 0 ∷ site (first 1) 1 ∷ []

-- let r = ref [] type t = A let () = r := [A]: the same; the names t and A; ( := ), that it is an arrow, r, that it is what is assigned to, the second arrow, A and that it has no argument, the whole
abbrev pub later_type_kept : List Site
later_type_kept = site (first 4) 0 ∷ site (first 3) 0 ∷ site (first 3) 1 ∷ site (first 2) 0 ∷ site (first 1) 1 ∷ site (second 1) 0 ∷ site (second 4) 0 ∷ site (third 3) 0 ∷ site (third 3) 1 ∷ site (third 4) 0 ∷ site (third 3) 2 ∷ site (third 3) 3 ∷ site (third 6) 0 ∷ site (third 6) 1 ∷ site (third 1) 1 ∷ []

-- module F (X : sig end) = struct let r = ref [] end: the name F, and those of the body
abbrev pub undetermined_kept : List Site
undetermined_kept = site (first 0) 1 ∷ site (first 7) 0 ∷ site (first 6) 0 ∷ site (first 6) 1 ∷ site (first 5) 0 ∷ site (first 4) 1 ∷ []

-- module M : sig val a : int val b : string end = struct let a = 1 end let c = M.b: the names M and a, 1, int, string, M.b, the name c and its whole
abbrev pub absent_component_kept : List Site
absent_component_kept = site (first 0) 1 ∷ site (first 10) 0 ∷ site (first 9) 0 ∷ site (first 8) 1 ∷ site (first 3) 0 ∷ site (first 3) 1 ∷ site (first 5) 0 ∷ site (first 5) 1 ∷ site (second 3) 0 ∷ site (second 2) 0 ∷ site (second 1) 1 ∷ []

-- type t = { a : int } let r = { a = 1 }: the name t, int, the label; the record, its label, 1, that it is the field, the name r and its whole
abbrev pub whole_record_kept : List Site
whole_record_kept = site (first 1) 0 ∷ site (first 5) 0 ∷ site (first 5) 1 ∷ site (first 4) 0 ∷ site (second 3) 1 ∷ site (second 4) 0 ∷ site (second 5) 0 ∷ site (second 4) 2 ∷ site (second 2) 0 ∷ site (second 1) 1 ∷ []

-- let f = let g = fun x -> x in (g 1, g "a"): of the inner binding x, its use, g and its whole; of each application g, that it is an arrow, the argument; f and its whole
abbrev pub used_twice_kept : List Site
used_twice_kept = site (first 7) 0 ∷ site (first 8) 0 ∷ site (first 5) 0 ∷ site (first 4) 1 ∷ site (first 12) 0 ∷ site (first 11) 0 ∷ site (first 13) 0 ∷ site (first 11) 1 ∷ site (first 15) 0 ∷ site (first 14) 0 ∷ site (first 14) 1 ∷ site (first 2) 0 ∷ site (first 1) 1 ∷ []

-- module M : sig type t val x : t end = struct type t = int let x = 1 end let y = M.x + 1: of the structure the name t, int, that t is no cycle, 1, the name x and its whole; of the signature the names and t; the seal; ( + ), M.x, 1, the name y and its whole
abbrev pub sealed_type_kept : List Site
sealed_type_kept = site (first 0) 1 ∷ site (first 9) 0 ∷ site (first 12) 0 ∷ site (first 12) 1 ∷ site (first 11) 0 ∷ site (first 16) 0 ∷ site (first 15) 0 ∷ site (first 14) 1 ∷ site (first 3) 0 ∷ site (first 6) 0 ∷ site (first 6) 1 ∷ site (first 0) 0 ∷ site (second 3) 0 ∷ site (second 3) 1 ∷ site (second 4) 0 ∷ site (second 3) 3 ∷ site (second 5) 0 ∷ site (second 3) 4 ∷ site (second 2) 0 ∷ site (second 1) 1 ∷ []

-- let f x = match x with true -> 1: the parameter, its use, the pattern, 1, the name f and its whole
abbrev pub missed_value_kept : List Site
missed_value_kept = site (first 3) 0 ∷ site (first 5) 0 ∷ site (first 4) 0 ∷ site (first 8) 0 ∷ site (first 2) 0 ∷ site (first 1) 1 ∷ []

-- let f (C x) = x, without C: the parameter, its use, the name f and its whole
abbrev pub unbound_pattern_kept : List Site
unbound_pattern_kept = site (first 6) 0 ∷ site (first 7) 0 ∷ site (first 2) 0 ∷ site (first 1) 1 ∷ []

-- let y = C 1, without C: 1, the name y and its whole
abbrev pub unbound_applied_kept : List Site
unbound_applied_kept = site (first 5) 0 ∷ site (first 2) 0 ∷ site (first 1) 1 ∷ []

-- module F (X : sig end) = struct type t = A end module E = struct end module P = F(E) module Q = F(E) let l = [P.A; Q.A]: of F its name, those of t and A, and the closing; the names E and P; of each application F, that it is a functor, E, that it matches, and between them the name Q; of P.A and of Q.A the constructor and its number of arguments; the name l and its whole
abbrev pub two_of_one_kept : List Site
two_of_one_kept = site (first 0) 1 ∷ site (first 4) 0 ∷ site (first 7) 0 ∷ site (first 0) 2 ∷ site (second 0) 1 ∷ site (third 0) 1 ∷ site (third 2) 0 ∷ site (third 1) 0 ∷ site (third 3) 0 ∷ site (third 1) 2 ∷ site (fourth 0) 1 ∷ site (fourth 2) 0 ∷ site (fourth 1) 0 ∷ site (fourth 3) 0 ∷ site (fourth 1) 2 ∷ site (fifth 4) 0 ∷ site (fifth 4) 1 ∷ site (fifth 5) 0 ∷ site (fifth 5) 1 ∷ site (fifth 2) 0 ∷ site (fifth 1) 1 ∷ []
