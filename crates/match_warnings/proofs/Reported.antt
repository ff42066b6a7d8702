-- Which warnings are reported, by what rows see of patterns.
use Rattle.std.proofs.Common.{◌⊎◌, inl, inr, ◌≡◌, ◌∙◌, ◌++◌, ℕ, Bool, true, false, ◌||◌, ◌==◌, ◌<◌, arith, if◌then◌else◌, List, [], ◌∷◌, length, map, codes, Option, Some, None, refl, sym, ap, subst, append_assoc, append-nil}
use Rattle.std.specs.Prelude.{option_map, OnOk, Result, Ok, Err}
use Rattle.std.proofs.lemmas.Bool.{eqb-true}
use Rattle.std.proofs.lemmas.List.{length-map, map-append}
use Rattle.text_terms.specs.declared.Span.{Span}
use Rattle.token_model.specs.Kinds.{Tok}
use Rattle.tree_model.specs.Trees.{Place, Tree, Part, node, taken, inner, missing}
use Rattle.tree_model.specs.Rows.{Row}
use Rattle.type_model.specs.Types.{Path, Typ}
use Rattle.match_model.specs.Values as model
use Rattle.match_model.specs.Values.{Values, Shape}
use Rattle.match_model.specs.Forms.{World, Form, closed_form, open_form, literals, no_form, form_of, AreOf}
use Rattle.match_model.specs.Rows.{is_matched, IsUnused}
use Rattle.match_model.specs.Printed.{alone, text_of}
use Rattle.match_model.specs.Shown.{is_complete, none_by_default, some_line}
use Rattle.syntax_tree.specs.View.{place_of}
use Rattle.env_table.specs.declared.faults.Fault.{Fault}
use Rattle.env_table.specs.declared.faults.FaultKind.{FaultKind}
use Rattle.env_table.specs.declared.faults.FaultKind.TheVariants as fault
use Rattle.typing_state.specs.declared.parts.Telling.{Telling}
use Rattle.typing_state.specs.declared.parts.Telling.TheVariants.{Aloud, Quiet}
use Rattle.typing_state.specs.declared.parts.Parts.{Parts}
use Rattle.typing_state.specs.Goes.{Told}
use Rattle.env_table.specs.declared.entries.Entry.{Entry}
use Rattle.row_parts.specs.Numbered.{Numbered, behind, numbered, row_at, token_in}
use Rattle.row_parts.specs.Folds.{operands_by}
use Rattle.match_warnings.specs.declared.forms.Form.{Form as PatternForm}
use Rattle.match_warnings.specs.declared.forms.Form.TheVariants as form
use Rattle.match_warnings.specs.Forms.{form_of as pattern_form, is_plain, matches_any}
use Rattle.pattern_matrix.specs.Lines.{Member, Typed, any}
use Rattle.pattern_matrix.specs.Typing.{IsSound}
use Rattle.pattern_matrix.specs.Exact.{row_of, rows_of, AreRowsTyped, TellsMissed, AreThose}
use Rattle.pattern_matrix.specs.declared.patterns.PatRow.{PatRow}
use Rattle.typing_conditions.specs.Sights.{Report}
use Rattle.typing_steps.specs.States.{report_of}
use Rattle.match_warnings.specs.Warnings.{WarnsOf, is_try, missed_at, missed_in, spans_of}
use Rattle.match_warnings.specs.declared.warnings.Rows.{Rows}
use Rattle.match_warnings.specs.Patterns.{Seen, by_form, pattern_of, seen_rule}
use Rattle.match_warnings.specs.Reported.{is_lacking, seen_in, Case, SeenRow, one_pattern, with_row, rows_of_cases, plain_row, AreRowsOf, IsMissedBy, AreUnusedIn, warning, Reports, ReportsRows, ReportsMatch, ReportsMissed, ReportsPattern, TellsOfMissed, missed_if, unused_if, unused_among, seen_row, Holds}

-- ---- reports

-- nothing is reported
pub reports_none : (t : Telling) (fs : List Fault) → Reports t [] fs fs
reports_none Quiet fs = refl
reports_none Aloud fs = ([], sym (append-nil fs), refl)

-- some warnings, and then others
pub reports_then : (t : Telling) (ws vs : List Report) (a b c : List Fault) → Reports t ws a b → Reports t vs b c → Reports t (ws ++ vs) a c
reports_then Quiet ws vs a b c p q = q ∙ p
reports_then Aloud ws vs a b c (xs, e, is) (ys, f, are) =
    (xs ++ ys, f ∙ ap (λ fs. fs ++ ys) e ∙ append_assoc a xs ys, map-append report_of xs ys ∙ ap (λ zs. zs ++ map report_of ys) is ∙ ap (λ zs. ws ++ zs) are)

-- the same, where the last call's result is the result
pub ends_reported : {A E : Type 0} (r : Result A E) (t : Telling) (ws vs : List Report) (a b c : List Fault) → Reports t ws a b → OnOk r (Reports t vs b c) → OnOk r (Reports t (ws ++ vs) a c)
ends_reported (Ok x) t ws vs a b c p q = reports_then t ws vs a b c p q
ends_reported (Err e) t ws vs a b c p q = tt

-- the one warning that is reported
pub told_reports : (t : Telling) (a b : List Fault) (at : Span) (kind : FaultKind) (message : List ℕ) → Told t a b at kind message → Reports t (warning (place_of at) kind message ∷ []) a b
told_reports Quiet a b at kind message told = told
told_reports Aloud a b at kind message (text, is, told) =
    let f : Fault = record { span = at; kind = kind; message = text } in
    (f ∷ [], told, ap (λ m. warning (place_of at) kind m ∷ []) is)

-- the same of the call that reports it
pub report_reports : {A E : Type 0} (r : Result A E) (t : Telling) (a b : List Fault) (at : Span) (kind : FaultKind) (message : List ℕ) →
    OnOk r (Told t a b at kind message) → OnOk r (Reports t (warning (place_of at) kind message ∷ []) a b)
report_reports (Ok x) t a b at kind message told = told_reports t a b at kind message told
report_reports (Err e) t a b at kind message told = tt

-- ---- rows

-- the rows of the code as they match values
pub rows_plain : (rs : List PatRow) → rows_of rs ≡ map plain_row (map seen_row rs)
rows_plain [] = refl
rows_plain (r ∷ rs) = ap (λ qs. row_of r ∷ qs) (rows_plain rs)

-- rows whose patterns are of a type are typed
pub rows_typed : (w : World) (t : Typ) (rs : List PatRow) → AreRowsOf w t (map seen_row rs) → AreRowsTyped w (t ∷ []) rs
rows_typed w t [] typed = tt
rows_typed w t (r ∷ rs) typed = (typed.0, rows_typed w t rs typed.1)

-- what rows miss
pub missed_is : (rs : List PatRow) (shape : Option Shape) →
    ((w : World) (ts : List Typ) → IsSound w → AreRowsTyped w ts rs → length ts ≡ 1 → TellsMissed w ts (rows_of rs) shape) → IsMissedBy (map seen_row rs) shape
missed_is rs shape h w t sound typed = subst (λ rows. TellsMissed w (t ∷ []) rows shape) (rows_plain rs) (h w (t ∷ []) sound (rows_typed w t rs typed) refl)

-- which rows no value reaches
pub unused_are : (rs : List PatRow) (us : List ℕ) →
    ((w : World) (ts : List Typ) → IsSound w → AreRowsTyped w ts rs → AreThose (λ k. IsUnused w ts (rows_of rs) k) (length rs) us) → AreUnusedIn (map seen_row rs) us
unused_are rs us h w t sound typed =
    let rows = map plain_row (map seen_row rs) in
    subst (λ n. AreThose (λ k. IsUnused w (t ∷ []) rows k) n us) (sym (length-map rs seen_row))
    (subst (λ qs. AreThose (λ k. IsUnused w (t ∷ []) qs k) (length rs) us) (rows_plain rs) (h w (t ∷ []) sound (rows_typed w t rs typed)))

-- a row of any value leaves no constructor out
not_complete : (f : Form) → is_complete f ((model.any ∷ []) ∷ []) ≡ false
not_complete (closed_form []) = refl
not_complete (closed_form (k ∷ ks)) = refl
not_complete (open_form ks) = refl
not_complete literals = refl
not_complete no_form = refl

-- it matches each value of a type
matches_each : (w : World) (d : ℕ) (t : Typ) (vs : Values) → AreOf w d (t ∷ []) vs → is_matched (plain_row (one_pattern any false) ∷ []) vs ≡ false → ⊥
matches_each w d t _ (AreOf.and_one v AreOf.none) e = let x : true ≡ false = e in cc

-- it misses nothing
pub any_misses_none : IsMissedBy (one_pattern any false ∷ []) None
any_misses_none w t sound typed = (λ shapes m. matches_each w _ t m.values m.typed m.missed, none_by_default (not_complete (form_of w t)) some_line)

-- ---- cases

-- rows with one more after them, where all are there
abbrev pub with_last : Option (List SeenRow) → Option Typed → Bool → Option (List SeenRow)
with_last None p guarded = None
with_last (Some rows) None guarded = None
with_last (Some rows) (Some p) guarded = Some (rows ++ one_pattern p guarded ∷ [])

-- a row before the others and one after them
both_ends : (p : Option Typed) (g : Bool) (rows : Option (List SeenRow)) (q : Option Typed) (h : Bool) → with_row p g (with_last rows q h) ≡ with_last (with_row p g rows) q h
both_ends None g rows q h = refl
both_ends (Some p) g None q h = refl
both_ends (Some p) g (Some rows) None h = refl
both_ends (Some p) g (Some rows) (Some q) h = refl

-- the row of the last case
last_row : (q : Option Typed) (h : Bool) → with_row q h (Some []) ≡ with_last (Some []) q h
last_row None h = refl
last_row (Some q) h = refl

-- the rows of cases and of one more
pub rows_more : (cs : List Case) (c : Case) → rows_of_cases (cs ++ c ∷ []) ≡ with_last (rows_of_cases cs) c.seen c.guarded
rows_more [] c = last_row c.seen c.guarded
rows_more (d ∷ cs) c = ap (with_row d.seen d.guarded) (rows_more cs c) ∙ both_ends d.seen d.guarded (rows_of_cases cs) c.seen c.guarded

-- ---- what the code reports

-- no warning of a case that a value reaches
pub reached : (found : Bool) (t : Telling) (at : Place) (fs : List Fault) → found ≡ false → Reports t (unused_if found at) fs fs
reached false t at fs e = reports_none t fs
reached true t at fs e = let x : true ≡ false = e in cc

-- the warning of one that none does
pub unreached : {A E : Type 0} (r : Result A E) (found : Bool) (t : Telling) (a b : List Fault) (at : Span) (message : List ℕ) → message ≡ codes "No value reaches this case" → found ≡ true →
    OnOk r (Told t a b at fault.Unused message) → OnOk r (Reports t (unused_if found (place_of at)) a b)
unreached r true t a b at message is e told = subst (λ m. OnOk r (Reports t (warning (place_of at) fault.Unused m ∷ []) a b)) is (report_reports r t a b at fault.Unused message told)
unreached r false t a b at message is e told = let x : false ≡ true = e in cc

-- nothing is reported where a pattern isn't seen
pub reports_unseen : (cases : List Case) (rows : Option (List SeenRow)) (t : Telling) (r : Row) (at : Place) (fs : List Fault) → rows ≡ rows_of_cases cases → rows ≡ None → ReportsMatch cases t r at fs fs
reports_unseen cases rows t r at fs e f = subst (λ q. ReportsRows q t r at (map (λ (c : Case). c.at) cases) fs fs) (sym f ∙ e) refl

-- nor where there is no row
pub reports_no_row : (cases : List Case) (rows : Option (List SeenRow)) (t : Telling) (r : Row) (at : Place) (fs : List Fault) → rows ≡ rows_of_cases cases → rows ≡ Some [] → ReportsMatch cases t r at fs fs
reports_no_row cases rows t r at fs e f = subst (λ q. ReportsRows q t r at (map (λ (c : Case). c.at) cases) fs fs) (sym f ∙ e) refl

-- what rows report is what each of them reports, where there is one
pub reports_rows : (rows : List SeenRow) (t : Telling) (r : Row) (at : Place) (cases : List Place) (a b : List Fault) (ws : List Report) (us : List ℕ) → 0 < length rows →
    TellsOfMissed (is_try r) at rows ws → AreUnusedIn rows us → Reports t (ws ++ unused_among us 0 cases) a b → ReportsRows (Some rows) t r at cases a b
reports_rows [] t r at cases a b ws us some missed unused told = absurd (omega arith)
reports_rows (s ∷ ss) t r at cases a b ws us some missed unused told = (ws, us, missed, unused, told)

-- no row of the code is there, or a pattern isn't seen
pub reports_nothing : (hidden : Bool) (rs : List PatRow) (cases : List Case) (t : Telling) (r : Row) (at : Place) (fs : List Fault) → (if hidden then None else Some (map seen_row rs)) ≡ rows_of_cases cases →
    (hidden ≡ false → length rs ≡ 0) → ReportsMatch cases t r at fs fs
reports_nothing true rs cases t r at fs e h = reports_unseen cases None t r at fs e refl
reports_nothing false [] cases t r at fs e h = reports_no_row cases (Some []) t r at fs e refl
reports_nothing false (x ∷ rs) cases t r at fs e h = let n = h refl in absurd (omega arith)

-- each pattern is seen, and there are rows of the code
pub reports_seen : (hidden : Bool) (rs : List PatRow) (cases : List Case) (t : Telling) (r : Row) (at : Place) (a b : List Fault) (ws : List Report) (us : List ℕ) →
    (if hidden then None else Some (map seen_row rs)) ≡ rows_of_cases cases → hidden ≡ false → 0 < length rs → TellsOfMissed (is_try r) at (map seen_row rs) ws → AreUnusedIn (map seen_row rs) us →
    Reports t (ws ++ unused_among us 0 (map (λ (c : Case). c.at) cases)) a b → ReportsMatch cases t r at a b
reports_seen true rs cases t r at a b ws us e f some missed unused told = let x : true ≡ false = f in cc
reports_seen false rs cases t r at a b ws us e f some missed unused told =
    let n = length-map rs seen_row in
    subst (λ q. ReportsRows q t r at (map (λ (c : Case). c.at) cases) a b) e (reports_rows (map seen_row rs) t r at (map (λ (c : Case). c.at) cases) a b ws us (omega arith) missed unused told)

-- a case more, where a pattern wasn't seen or isn't now
pub open_more : (cs : List Case) (c : Case) (rows : Option (List SeenRow)) → rows ≡ rows_of_cases cs → c.seen ≡ None → None ≡ rows_of_cases (cs ++ c ∷ [])
open_more cs c rows e f = sym (rows_more cs c ∙ ap (λ p. with_last (rows_of_cases cs) p c.guarded) f ∙ none_last (rows_of_cases cs))
  where
    none_last : (q : Option (List SeenRow)) → with_last q None c.guarded ≡ None
    none_last None = refl
    none_last (Some q) = refl

-- a row of the code more
pub row_more : (hidden : Bool) (rs : List PatRow) (x : PatRow) (cs : List Case) (c : Case) (p : Typed) → (if hidden then None else Some (map seen_row rs)) ≡ rows_of_cases cs →
    c.seen ≡ Some p → seen_row x ≡ one_pattern p c.guarded → (if hidden then None else Some (map seen_row (rs ++ x ∷ []))) ≡ rows_of_cases (cs ++ c ∷ [])
row_more hidden rs x cs c p e f g =
    by hidden ∙ ap (λ q. with_last q (Some p) c.guarded) e ∙ sym (rows_more cs c ∙ ap (λ q. with_last (rows_of_cases cs) q c.guarded) f)
  where
    by : (b : Bool) → (if b then None else Some (map seen_row (rs ++ x ∷ []))) ≡ with_last (if b then None else Some (map seen_row rs)) (Some p) c.guarded
    by true = refl
    by false = ap Some (map-append seen_row rs (x ∷ []) ∙ ap (λ y. map seen_row rs ++ y ∷ []) g)

-- nothing is seen of a pattern with a fault or a missing part
pub seen_none : (env : List Entry) (faulty : Bool) (p : Numbered) → faulty || is_lacking p.part ≡ true → seen_in env faulty p ≡ None
seen_none env faulty p e = ap (λ b. if b then None else pattern_of env p) e

-- and else its pattern
pub seen_is : (env : List Entry) (faulty : Bool) (p : Numbered) → faulty || is_lacking p.part ≡ false → seen_in env faulty p ≡ pattern_of env p
seen_is env faulty p e = ap (λ b. if b then None else pattern_of env p) e

-- what a `try` reports of missed values
pub of_a_try : (is : Bool) (at : Place) (rows : List SeenRow) (t : Telling) (fs : List Fault) → is ≡ true → (ws : List Report) × TellsOfMissed is at rows ws × Reports t ws fs fs
of_a_try true at rows t fs e = ([], refl, reports_none t fs)
of_a_try false at rows t fs e = let x : false ≡ true = e in cc

-- and another match
pub of_others : {A E : Type 0} (result : Result A E) (is : Bool) (at : Place) (rows : List SeenRow) (t : Telling) (a b : List Fault) → is ≡ false →
    OnOk result (ReportsMissed rows t at a b) → OnOk result ((ws : List Report) × TellsOfMissed is at rows ws × Reports t ws a b)
of_others (Ok x) false at rows t a b e (shape, missed, told) = (missed_if at shape, (shape, missed, refl), told)
of_others (Ok x) true at rows t a b e told = let x : true ≡ false = e in cc
of_others (Err y) is at rows t a b e told = tt

-- where it may report them
pub places_of_others : {A E : Type 0} (result : Result A E) (r : Row) (at : Place) (a b : Parts) → is_try r ≡ false → OnOk result (WarnsOf (missed_at at) a b) → OnOk result (WarnsOf (missed_in r at) a b)
places_of_others result r at a b e told = subst (λ (is : Bool). OnOk result (WarnsOf (if is then [] else missed_at at) a b)) (sym e) told

-- the warning of a missed shape
pub told_missed : {A E : Type 0} (r : Result A E) (rows : List SeenRow) (s : Shape) (t : Telling) (a b : List Fault) (at : Span) (message : List ℕ) → IsMissedBy rows (Some s) → message ≡ codes "Not every value is matched: " ++ text_of alone s →
    OnOk r (Told t a b at fault.Missed message) → OnOk r (ReportsMissed rows t (place_of at) a b)
told_missed (Ok x) rows s t a b at message missed is told = (Some s, missed, subst (λ m. Reports t (warning (place_of at) fault.Missed m ∷ []) a b) is (told_reports t a b at fault.Missed message told))
told_missed (Err y) rows s t a b at message missed is told = tt

-- none where nothing is missed
pub none_missed : (rows : List SeenRow) (t : Telling) (at : Place) (fs : List Fault) → IsMissedBy rows None → ReportsMissed rows t at fs fs
none_missed rows t at fs missed = (None, missed, reports_none t fs)

-- the rows of a match are reported, and then the cases that no value reaches
pub rows_reported : {A E : Type 0} (r : Result A E) (rows : Rows) (ws : List Report) (us : List ℕ) (t : Telling) (row : Row) (at : Place) (a b c : List Fault) → rows.is_open ≡ false → 0 < length rows.rows.items →
    TellsOfMissed (is_try row) at (map seen_row rows.rows.items) ws → AreUnusedIn (map seen_row rows.rows.items) us → Reports t ws a b → OnOk r (Reports t (unused_among us 0 (spans_of rows)) b c) →
    OnOk r ((members : Path → List Member) (cases : List Case) → Holds members rows cases → ReportsMatch cases t row at a c)
rows_reported (Ok x) rows ws us t row at a b c closed some missed unused told rest = λ members cases holds.
    reports_seen rows.is_open rows.rows.items cases t row at a c ws us holds.seen closed some missed unused
    (subst (λ ss. Reports t (ws ++ unused_among us 0 ss) a c) holds.spans (reports_then t ws (unused_among us 0 (spans_of rows)) a b c told rest))
rows_reported (Err y) rows ws us t row at a b c closed some missed unused told rest = tt

-- nothing is reported of a match that is silent
pub silent_match : (hidden : Bool) (rs : List PatRow) (cases : List Case) (t : Telling) (r : Row) (at : Place) (fs : List Fault) → (hidden || length rs == 0) ≡ true → (if hidden then None else Some (map seen_row rs)) ≡ rows_of_cases cases → ReportsMatch cases t r at fs fs
silent_match hidden rs cases t r at fs silent seen = reports_nothing hidden rs cases t r at fs seen (λ closed. eqb-true (length rs) 0 (subst (λ b. (b || length rs == 0) ≡ true) closed silent))

-- another has all its rows, and at least one
pub heard_match : (hidden : Bool) (rs : List PatRow) → (hidden || length rs == 0) ≡ false → (hidden ≡ false) × (0 < length rs)
heard_match true rs e = let x : true ≡ false = e in cc
heard_match false [] e = let x : true ≡ false = e in cc
heard_match false (x ∷ rs) e = (refl, omega arith)

-- ---- patterns that match any value by their rows

-- one by its form
plain_by_form : (env : List Entry) (n : ℕ) (t : Tree) (ss : List (ℕ × Seen)) (f : PatternForm) → matches_any f ≡ true → (by_form f env n t ss ≡ None) ⊎ (by_form f env n t ss ≡ Some any)
plain_by_form env n t ss form.Name e = by (token_in t 0)
  where
    by : (q : Option Tok) → (option_map {U = Typed} (λ (x : Tok). any) q ≡ None) ⊎ (option_map {U = Typed} (λ (x : Tok). any) q ≡ Some any)
    by None = inl refl
    by (Some x) = inr refl
plain_by_form env n t ss form.Wildcard e = inr refl
plain_by_form env n t ss form.Constant e = let x : false ≡ true = e in cc
plain_by_form env n t ss form.Negative e = let x : false ≡ true = e in cc
plain_by_form env n t ss form.Record e = let x : false ≡ true = e in cc
plain_by_form env n t ss form.Bare e = let x : false ≡ true = e in cc
plain_by_form env n t ss (form.Over f) e = let x : false ≡ true = e in cc

-- an operand that is one has no pattern, or the one that matches any value
plain_seen : (env : List Entry) (n : ℕ) (at : Place) (p : Part) → is_plain (row_at p) ≡ true → (pattern_of env (numbered n at p) ≡ None) ⊎ (pattern_of env (numbered n at p) ≡ Some any)
unfolding pattern_of
plain_seen env n at (taken t) e = let x : false ≡ true = e in cc
plain_seen env n at (inner (node r x ps)) e = plain_by_form env n (node r x ps) (operands_by (seen_rule env) (behind n 1) r ps) (pattern_form r) e
plain_seen env n at (missing q) e = let x : false ≡ true = e in cc

-- nothing is reported of what isn't seen
pub pattern_unseen : (p : Option Typed) (t : Telling) (at : Place) (fs : List Fault) → p ≡ None → ReportsPattern p t at fs fs
pattern_unseen p t at fs e = subst (λ q. ReportsPattern q t at fs fs) (sym e) refl

-- nor of a pattern that matches any value
pattern_any : (p : Option Typed) (t : Telling) (at : Place) (fs : List Fault) → p ≡ Some any → ReportsPattern p t at fs fs
pattern_any p t at fs e = subst (λ q. ReportsPattern q t at fs fs) (sym e) (none_missed (one_pattern any false ∷ []) t at fs any_misses_none)

-- nor of one that does so by its row
pub pattern_plain : (env : List Entry) (o : Numbered) (t : Telling) (at : Place) (fs : List Fault) → is_plain (row_at o.part) ≡ true → ReportsPattern (seen_in env false o) t at fs fs
pattern_plain env o t at fs e = by (is_lacking o.part) (plain_seen env o.number o.at o.part e)
  where
    by : (b : Bool) → (pattern_of env o ≡ None) ⊎ (pattern_of env o ≡ Some any) → ReportsPattern (if b then None else pattern_of env o) t at fs fs
    by true h = refl
    by false (inl h) = pattern_unseen (pattern_of env o) t at fs h
    by false (inr h) = pattern_any (pattern_of env o) t at fs h

-- what is reported of a pattern that is seen
pub pattern_told : (p : Option Typed) (q : Typed) (rows : List SeenRow) (t : Telling) (at : Place) (a b : List Fault) → p ≡ Some q → rows ≡ one_pattern q false ∷ [] → ReportsMissed rows t at a b → ReportsPattern p t at a b
pattern_told p q rows t at a b e is h = subst (λ s. ReportsPattern s t at a b) (sym e) (subst (λ (rs : List SeenRow). ReportsMissed rs t at a b) is h)
