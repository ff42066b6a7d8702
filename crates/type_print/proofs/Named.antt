-- A text depends on the names of the variables that stand in it alone.
use Rattle.std.proofs.Common.{◌≡◌, ℕ, ◌+◌, Bool, true, false, List, [], ◌∷◌, ◌++◌, codes, Some, refl, sym, ◌∙◌, ap, subst}
use Rattle.std.specs.Prelude.{if◌then◌else◌}
use Rattle.type_model.specs.Types.{Path, Typ, Typs, Nil, Cons}
use Rattle.type_model.specs.Types.{Typ as type}
use Rattle.type_nodes.specs.Nodes.{Node}
use Rattle.type_print_model.specs.Variables.{variables_of, variables_in, is_among, rank_in, variable_name, weak_name, letter_name}
use Rattle.type_print_model.specs.Printing.{Names, Within, text_of, separated, rest_of, arguments_of, alone, left_of_arrow, inner, cut}
use Rattle.env_table.specs.declared.entries.Entry.{Entry}
use Rattle.type_print.specs.declared.variables.VariableName.TheVariants as name
use Rattle.type_print.specs.declared.variables.Variables.{Variables}
use Rattle.type_print.specs.declared.printing.Known.{Known}
use Rattle.type_print.specs.Meeting.{is_weak, has_letter, AreAmong, met_of, AreNamed}
use Rattle.type_print.specs.Texts.{name_text, variable_text, PrintsWith, KnownAre, AreKnown, Writes, IsCuttable}
use Rattle.type_print.proofs.Known.{known_so}

-- two ways to name variables agree on these
abbrev Agree : (ℕ → List ℕ) → (ℕ → List ℕ) → List ℕ → Type 0
Agree f g [] = Unit {0}
Agree f g (v ∷ vs) = (f v ≡ g v) × Agree f g vs

-- what agrees on two lists does on the first
agree_left : (f g : ℕ → List ℕ) (xs ys : List ℕ) → Agree f g (xs ++ ys) → Agree f g xs
agree_left f g [] ys h = tt
agree_left f g (x ∷ xs) ys h = (h.0, agree_left f g xs ys h.1)

-- and on the second
agree_right : (f g : ℕ → List ℕ) (xs ys : List ℕ) → Agree f g (xs ++ ys) → Agree f g ys
agree_right f g [] ys h = h
agree_right f g (x ∷ xs) ys h = agree_right f g xs ys h.1

-- names of variables beside those of origins
abbrev names_by : (Path → List ℕ) → (ℕ → List ℕ) → Names
names_by o f = record { variable = f; origin = o }

mutual
  same_text : (o : Path → List ℕ) (f g : ℕ → List ℕ) (w : Within) (t : Typ) → Agree f g (variables_of t) → text_of (names_by o f) w t ≡ text_of (names_by o g) w t
  same_text o f g w (type.Var v) h = h.0
  same_text o f g w (type.Arrow a b) h =
      let i = same_text o f g left_of_arrow a (agree_left f g (variables_of a) (variables_of b) h) in
      let j = same_text o f g alone b (agree_right f g (variables_of a) (variables_of b) h) in
      rw (i, j) refl
  same_text o f g w (type.Tuple ts) h = let i = same_separated o f g inner (codes " * ") ts h in rw i refl
  same_text o f g w (type.Con p ts) h = let i = same_arguments o f g ts h in rw i refl

  same_separated : (o : Path → List ℕ) (f g : ℕ → List ℕ) (w : Within) (s : List ℕ) (ts : Typs) → Agree f g (variables_in ts) → separated (names_by o f) w s ts ≡ separated (names_by o g) w s ts
  same_separated o f g w s Nil h = refl
  same_separated o f g w s (Cons t ts) h =
      let i = same_text o f g w t (agree_left f g (variables_of t) (variables_in ts) h) in
      let j = same_rest o f g w s ts (agree_right f g (variables_of t) (variables_in ts) h) in
      rw (i, j) refl

  same_rest : (o : Path → List ℕ) (f g : ℕ → List ℕ) (w : Within) (s : List ℕ) (ts : Typs) → Agree f g (variables_in ts) → rest_of (names_by o f) w s ts ≡ rest_of (names_by o g) w s ts
  same_rest o f g w s Nil h = refl
  same_rest o f g w s (Cons t ts) h =
      let i = same_text o f g w t (agree_left f g (variables_of t) (variables_in ts) h) in
      let j = same_rest o f g w s ts (agree_right f g (variables_of t) (variables_in ts) h) in
      rw (i, j) refl

  same_arguments : (o : Path → List ℕ) (f g : ℕ → List ℕ) (ts : Typs) → Agree f g (variables_in ts) → arguments_of (names_by o f) ts ≡ arguments_of (names_by o g) ts
  same_arguments o f g Nil h = refl
  same_arguments o f g (Cons t Nil) h = let i = same_text o f g inner t (agree_left f g (variables_of t) [] h) in rw i refl
  same_arguments o f g (Cons t (Cons u us)) h =
      let rest = agree_right f g (variables_of t) (variables_of u ++ variables_in us) h in
      let i = same_text o f g alone t (agree_left f g (variables_of t) (variables_of u ++ variables_in us) h) in
      let j = same_text o f g alone u (agree_left f g (variables_of u) (variables_in us) rest) in
      let k = same_rest o f g alone (codes ", ") us (agree_right f g (variables_of u) (variables_in us) rest) in
      rw (i, j, k) refl

-- the text of a variable's name, of either kind
given_text : (b : Bool) (j k : ℕ) → name_text (Some (if b then name.Weak (j + 1) else name.Letter k)) ≡ (if b then weak_name j else letter_name k)
given_text true j k = refl
given_text false j k = refl

-- a variable that was met has the name of its place
met_text : (nodes : List Node) (weak all : List ℕ) (vs : Variables) (v : ℕ) → AreNamed nodes weak all (met_of vs) → is_among v all ≡ true → variable_text vs v ≡ variable_name weak all v
met_text nodes weak all vs v named h = ap name_text (named.named v h) ∙ given_text (is_among v weak) (rank_in (is_weak weak) [] v all) (rank_in (has_letter weak) [] v all)

-- so it has for all of some variables that were met
met_agree : (nodes : List Node) (weak all : List ℕ) (vs : Variables) (f : ℕ → List ℕ) (us : List ℕ) → AreNamed nodes weak all (met_of vs) → ((v : ℕ) → f v ≡ variable_name weak all v) → AreAmong all us → Agree (variable_text vs) f us
met_agree nodes weak all vs f [] named is h = tt
met_agree nodes weak all vs f (u ∷ us) named is h = (met_text nodes weak all vs u named h.0 ∙ sym (is u), met_agree nodes weak all vs f us named is h.1)

-- what is written with the names of those that were met is written with the names of their places
pub spoken : (nodes : List Node) (weak all : List ℕ) (vs : Variables) (old new : List Known) (t : Typ) (text : List ℕ) → AreNamed nodes weak all (met_of vs) → AreAmong all (variables_of t) → Writes vs old new t text →
    (ns : Names) → ((v : ℕ) → ns.variable v ≡ variable_name weak all v) → KnownAre ns.origin new → IsCuttable (text_of ns alone t) → text ≡ cut (text_of ns alone t)
spoken nodes weak all vs old new t text named among writes ns variable origin cuttable =
    let same : text_of (names_by ns.origin (variable_text vs)) alone t ≡ text_of ns alone t = same_text ns.origin (variable_text vs) ns.variable alone t (met_agree nodes weak all vs ns.variable (variables_of t) named variable among) in
    (writes (names_by ns.origin (variable_text vs)) (record { variable = λ v. refl; origin = origin })).1 (subst IsCuttable (sym same) cuttable) ∙ ap cut same

-- names of origins that agree with what is named later agree with what was named before
pub known_before : (vs : Variables) (old new : List Known) (t : Typ) (text : List ℕ) → Writes vs old new t text → (f : Path → List ℕ) → KnownAre f new → KnownAre f old
known_before vs old new t text writes f origin = (writes (names_by f (variable_text vs)) (record { variable = λ v. refl; origin = origin })).0.origin

-- what is written so is printed with each naming that agrees with all nodes
pub printed_so : (nodes : List Node) (env : List Entry) (weak all : List ℕ) (vs : Variables) (old new : List Known) (t : Typ) (text : List ℕ) → AreNamed nodes weak all (met_of vs) → AreAmong all (variables_of t) →
    AreKnown nodes env new → Writes vs old new t text → PrintsWith nodes env (variable_name weak all) t text
printed_so nodes env weak all vs old new t text named among known writes ns variable origin = spoken nodes weak all vs old new t text named among writes ns variable (known_so nodes env ns.origin origin new known)
