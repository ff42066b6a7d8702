-- A text that names each origin once is that of the definition, for names by which nodes declare its origins.
use Rattle.std.proofs.Common.{◌≡◌, inl, inr, ℕ, Bool, true, List, [], ◌++◌, refl}
use Rattle.std.specs.Prelude.{◌||◌}
use Rattle.type_model.specs.Types.{Path, Typ}
use Rattle.signature_model.specs.Declarations.{Name}
use Rattle.type_nodes.specs.Nodes.{Node}
use Rattle.env_table.specs.declared.entries.Entry.{Entry}
use Rattle.type_print_model.specs.Variables.{variables_of}
use Rattle.type_print_model.specs.Printing.{mentions}
use Rattle.type_print.specs.declared.printing.Known.{Known}
use Rattle.type_print.specs.declared.variables.Variables.{Variables}
use Rattle.type_print.specs.Meeting.{AreAmong, met_of, AreNamed}
use Rattle.type_print.specs.Paths.{name_in}
use Rattle.type_print.specs.Shown.{shown}
use Rattle.type_print.specs.Texts.{KnownAre, AreKnown, Writes, PrintsNamed, PrintsIn, PrintsTwoIn, names_found}
use Rattle.type_print.proofs.Ranks.{or_left, or_right, or_cases, all_left, all_right}
use Rattle.type_print.proofs.Known.{choice, choice_known}
use Rattle.type_print.proofs.Mentioned.{HasDeclared, shown_declared}
use Rattle.type_print.proofs.Named.{spoken, known_before}
use Rattle.type_print.proofs.Levels.{named_right}

-- with names by which what was named was found, a text is that of the definition
named_so : (nodes : List Node) (env : List Entry) (declared : Path → Name) (weak all : List ℕ) (vs : Variables) (old new : List Known) (t : Typ) (text : List ℕ) → AreNamed nodes weak all (met_of vs) → AreAmong all (variables_of t) →
    Writes vs old new t text → KnownAre (λ o. name_in env o (declared o)) new → PrintsNamed env declared weak all t text
named_so nodes env declared weak all vs old new t text named among writes known cuttable = record {
  origin = λ o. name_in env o (declared o);
  named = λ o h. named_right env o (declared o) declared refl;
  text = spoken nodes weak all vs old new t text named among writes (names_found env declared weak all) (λ v. refl) known cuttable;
}

-- the text of one type
pub printed_in : (nodes : List Node) (env : List Entry) (weak all : List ℕ) (vs : Variables) (old new : List Known) (n : ℕ) (text : List ℕ) → AreNamed nodes weak all (met_of vs) → AreAmong all (variables_of (shown nodes n)) →
    AreKnown nodes env new → Writes vs old new (shown nodes n) text → PrintsIn nodes env weak all (shown nodes n) text
printed_in nodes env weak all vs old new n text named among known writes =
    let wanted : Path → Bool = λ o. mentions o (shown nodes n) in
    let each : (o : Path) → wanted o ≡ true → HasDeclared nodes o = shown_declared nodes n in
    let one = choice nodes env wanted each new known in
    record {
      declared = λ o. (one o).0;
      declares = λ o h. (one o).1 h;
      prints = named_so nodes env (λ o. (one o).0) weak all vs old new (shown nodes n) text named among writes (choice_known nodes env wanted each new known);
    }

-- the texts of two types, the second with the names of the first
pub printed_two_in : (nodes : List Node) (env : List Entry) (vs : Variables) (old middle new : List Known) (n m : ℕ) (first second : List ℕ) → AreNamed nodes [] (variables_of (shown nodes n) ++ variables_of (shown nodes m)) (met_of vs) →
    AreKnown nodes env new → Writes vs old middle (shown nodes n) first → Writes vs middle new (shown nodes m) second → PrintsTwoIn nodes env (shown nodes n) (shown nodes m) first second
printed_two_in nodes env vs old middle new n m first second named known writes later =
    let t = shown nodes n in
    let u = shown nodes m in
    let all = variables_of t ++ variables_of u in
    let wanted : Path → Bool = λ o. mentions o t || mentions o u in
    let each : (o : Path) → wanted o ≡ true → HasDeclared nodes o = λ o h. elim (or_cases (mentions o t) (mentions o u) h) [ inl i ↦ shown_declared nodes n o i | inr i ↦ shown_declared nodes m o i ] in
    let one = choice nodes env wanted each new known in
    let declared : Path → Name = λ o. (one o).0 in
    let found : KnownAre (λ o. name_in env o (declared o)) new = choice_known nodes env wanted each new known in
    record {
      declared = declared;
      declares_first = λ o h. (one o).1 (or_left (mentions o t) (mentions o u) h);
      declares_second = λ o h. (one o).1 (or_right (mentions o t) (mentions o u) h);
      prints_first = named_so nodes env declared [] all vs old middle t first named (all_left (variables_of t) (variables_of u) (variables_of t) (all_right [] (variables_of t))) writes
          (known_before vs middle new u second later (λ o. name_in env o (declared o)) found);
      prints_second = named_so nodes env declared [] all vs middle new u second named (all_right (variables_of t) (variables_of u)) later found;
    }
