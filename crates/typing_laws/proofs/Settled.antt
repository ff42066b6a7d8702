-- In a text without modules and re-exports what is asked up to a demand depends only on what is kept before it.
use Rattle.std.proofs.Common.{◌≡◌, Bool, true, false, ◌==◌, List, [], ◌∷◌, refl, sym, ap}
use Rattle.type_model.proofs.Applying.{or_left, or_right, eqb_same}
use Rattle.tree_model.specs.Trees.{Tree, Forest, node}
use Rattle.tree_model.specs.Rows.{Row, let_row, type_row, exception_row, break_row}
use Rattle.signature_model.specs.Entries.{Environment}
use Rattle.typing_model.specs.Demands.{Site, same_site, Condition, same, instance, made, known, demand, treated, sites_of}
use Rattle.typing_model.specs.Contexts.{Choice}
use Rattle.typing_model.specs.Typings.{conditions_of, is_site_among, sites_before, conditions_up_to}
use Rattle.typing_model.specs.Plain.{is_plain_row, has_no_modules, is_let_row, has_lets_alone, is_value_row, has_values_alone}
use Rattle.typing_laws.proofs.Bools.{no_yes, and_cases, and_both}
use Rattle.typing_laws.proofs.Together.{Kept}
use Rattle.typing_laws.proofs.Whole.{Whole, at_end, at_demand, at_same, at_instance, at_made, at_known, at_treated}
use Rattle.typing_laws.proofs.WholeTexts.{text_whole}
use Rattle.typing_laws.specs.Reexports.{is_new_item, has_new_types}

same_as_itself : (s : Site) → same_site s s ≡ true
same_as_itself s = and_both (s.node == s.node) (s.number == s.number) (eqb_same s.node) (eqb_same s.number)

-- what is asked up to a demand is one where the same demands before it are kept
up_to_one : {k m : Kept} {cs ds : List Condition} (s : Site) → Whole k m cs ds → ((x : Site) → is_site_among x (sites_before s (sites_of cs)) ≡ true → m x ≡ k x) → conditions_up_to s ds ≡ conditions_up_to s cs
up_to_one s at_end before = refl
up_to_one s (at_same {t = t} {u = u} h) before = ap (λ xs. same t u ∷ xs) (up_to_one s h before)
up_to_one s (at_instance {s = z} {t = t} h) before = ap (λ xs. instance z t ∷ xs) (up_to_one s h before)
up_to_one s (at_made {i = i} {t = t} h) before = ap (λ xs. made i t ∷ xs) (up_to_one s h before)
up_to_one s (at_known {t = t} h) before = ap (λ xs. known t ∷ xs) (up_to_one s h before)
up_to_one s (at_treated {i = i} {e = e} h) before = ap (λ xs. treated i e ∷ xs) (up_to_one s h before)
up_to_one {k} {m} s (at_demand {s = t} {p = p} {d = d} {cs = cs} {ds = ds} g) before = by (same_site s t) refl (λ a j. up_to_one s (g a) j)
  where
    by : (b : Bool) → same_site s t ≡ b → (k t ≡ m t → ((x : Site) → is_site_among x (sites_before s (sites_of cs)) ≡ true → m x ≡ k x) → conditions_up_to s ds ≡ conditions_up_to s cs) → conditions_up_to s (demand t p d ∷ ds) ≡ conditions_up_to s (demand t p d ∷ cs)
    by true h further = rw (h, conditions_up_to) refl
    by false h further =
        let first : k t ≡ m t = sym (before t (rw (h, sites_before) (or_left (same_site t t) (is_site_among t (sites_before s (sites_of cs))) (same_as_itself t)))) in
        let rest : conditions_up_to s ds ≡ conditions_up_to s cs = further first (λ x j. before x (rw (h, sites_before) (or_right (same_site x t) (is_site_among x (sites_before s (sites_of cs))) j))) in
        rw (h, conditions_up_to) (ap (λ xs. demand t p d ∷ xs) rest)

-- so it is in such a text
pub new_settled : (env : Environment) (text : List Tree) (kept others : Site → Bool) (choice : Choice) (s : Site) → has_new_types text ≡ true →
    ((x : Site) → is_site_among x (sites_before s (sites_of (conditions_of env text kept choice))) ≡ true → others x ≡ kept x) → conditions_up_to s (conditions_of env text others choice) ≡ conditions_up_to s (conditions_of env text kept choice)
new_settled env text kept others choice s new before = up_to_one s (text_whole {k = kept} {m = others} env text choice new) before

-- a text of `let`, exceptions and `;;` declares no types
row_new : (r : Row) (ps : Forest) → is_value_row r ≡ true → is_new_item r ps ≡ true
row_new let_row ps e = refl
row_new exception_row ps e = refl
row_new break_row ps e = refl
row_new _ ps e = absurd (no_yes e)

pub values_new : (text : List Tree) → has_values_alone text ≡ true → has_new_types text ≡ true
values_new [] e = refl
values_new (node r x ps ∷ ts) e = let (first, others) = and_cases (is_value_row r) (has_values_alone ts) e in and_both (is_new_item r ps) (has_new_types ts) (row_new r ps first) (values_new ts others)

pub values_settled : (env : Environment) (text : List Tree) (kept others : Site → Bool) (choice : Choice) (s : Site) → has_values_alone text ≡ true →
    ((x : Site) → is_site_among x (sites_before s (sites_of (conditions_of env text kept choice))) ≡ true → others x ≡ kept x) → conditions_up_to s (conditions_of env text others choice) ≡ conditions_up_to s (conditions_of env text kept choice)
values_settled env text kept others choice s values before = new_settled env text kept others choice s (values_new text values) before

-- a text of `let` and `;;` is one of `let`, exceptions and `;;`
row_value : (r : Row) → is_let_row r ≡ true → is_value_row r ≡ true
row_value let_row e = refl
row_value break_row e = refl
row_value _ e = absurd (no_yes e)

pub lets_values : (text : List Tree) → has_lets_alone text ≡ true → has_values_alone text ≡ true
lets_values [] e = refl
lets_values (node r x ps ∷ ts) e = let (first, others) = and_cases (is_let_row r) (has_lets_alone ts) e in and_both (is_value_row r) (has_values_alone ts) (row_value r first) (lets_values ts others)

pub lets_settled : (env : Environment) (text : List Tree) (kept others : Site → Bool) (choice : Choice) (s : Site) → has_lets_alone text ≡ true →
    ((x : Site) → is_site_among x (sites_before s (sites_of (conditions_of env text kept choice))) ≡ true → others x ≡ kept x) → conditions_up_to s (conditions_of env text others choice) ≡ conditions_up_to s (conditions_of env text kept choice)
lets_settled env text kept others choice s lets before = values_settled env text kept others choice s (lets_values text lets) before

-- `let`, exceptions and `;;` are no modules
row_plain : (r : Row) → is_value_row r ≡ true → is_plain_row r ≡ true
row_plain let_row e = refl
row_plain exception_row e = refl
row_plain break_row e = refl
row_plain _ e = absurd (no_yes e)

-- nor are declarations of types
new_plain_row : (r : Row) (ps : Forest) → is_new_item r ps ≡ true → is_plain_row r ≡ true
new_plain_row let_row ps e = refl
new_plain_row type_row ps e = refl
new_plain_row exception_row ps e = refl
new_plain_row break_row ps e = refl
new_plain_row _ ps e = absurd (no_yes e)

pub new_plain : (text : List Tree) → has_new_types text ≡ true → has_no_modules text ≡ true
new_plain [] e = refl
new_plain (node r x ps ∷ ts) e = let (first, others) = and_cases (is_new_item r ps) (has_new_types ts) e in and_both (is_plain_row r) (has_no_modules ts) (new_plain_row r ps first) (new_plain ts others)

pub values_plain : (text : List Tree) → has_values_alone text ≡ true → has_no_modules text ≡ true
values_plain [] e = refl
values_plain (node r x ps ∷ ts) e = let (first, others) = and_cases (is_value_row r) (has_values_alone ts) e in and_both (is_plain_row r) (has_no_modules ts) (row_plain r first) (values_plain ts others)

pub lets_plain : (text : List Tree) → has_lets_alone text ≡ true → has_no_modules text ≡ true
lets_plain text e = values_plain text (lets_values text e)
