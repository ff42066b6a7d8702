-- The search for an origin, step by step.
use Rattle.std.proofs.Common.{◌≡◌, ℕ, zero, suc, ◌+◌, ◌<◌, ◌≤◌, Bool, true, false, List, [], ◌∷◌, ◌++◌, map, None, append_assoc, refl, ◌∙◌, ap, arith}
use Rattle.std.specs.Prelude.{if◌then◌else◌}
use mathlib.Core.List.{reverse_aux}
use Rattle.std.specs.declared.rc.Rc.{Rc}
use Rattle.std.specs.declared.alloc.Global.{Global}
use Rattle.text_terms.specs.Bytes.{str_bytes}
use Rattle.type_model.specs.Types.{Path}
use Rattle.signature_model.specs.Declarations.{Name}
use Rattle.env_table.specs.declared.entries.What.{What, map-What, out-What, fold-What, fold_out-What}
use Rattle.env_table.specs.declared.entries.Sig.{Sig, map-Sig, out-Sig, fold-Sig, fold_out-Sig}
use Rattle.env_table.specs.declared.entries.Components.{Components, map-Components, out-Components, fold-Components, fold_out-Components}
use Rattle.env_table.specs.declared.entries.Sig.TheOpen.{Sig-F, What-F, Components-F}
use Rattle.env_table.specs.declared.entries.Entry.{Entry, fold-Entry, fold_out-Entry}
use Rattle.env_table.specs.declared.entries.Template.{Template, fold-Template}
use Rattle.env_table.specs.Views.{names_in, newest_first, inside_sig, inside_opened, what_opened}
use Rattle.type_print.specs.Paths.{contents, found_or, name_for, sum_of, entry_weight, entries_weight, queue_weight, sig_step, what_step, components_step, entry_step, template_step, search_in, way_among, modules_behind, is_module, among, Scoped}

w1 : (e : Entry) → entry_weight e ≡ suc (fold-What ℕ ℕ ℕ ℕ ℕ sig_step what_step components_step entry_step template_step e.what)
unfolding entry_weight
w1 e = let h = fold_out-Entry ℕ ℕ ℕ ℕ ℕ sig_step what_step components_step entry_step template_step e in h

map_twice : {A B C : Type 0} (f : B → C) (g : A → B) (xs : List A) → map f (map g xs) ≡ map (λ x. f (g x)) xs
map_twice f g [] = refl
map_twice f g (x ∷ xs) = ap (λ ys. f (g x) ∷ ys) (map_twice f g xs)

reversed_weight : (xs : List (Rc Entry Global)) (es : List Entry) → entries_weight (reverse_aux (map (λ (r : Rc Entry Global). r.value) xs) es) ≡ sum_of (map (λ (r : Rc Entry Global). entry_weight r.value) xs) + entries_weight es
reversed_weight [] es = omega arith
reversed_weight (x ∷ xs) es = let h = reversed_weight xs (x.value ∷ es) in omega arith

newest_weight : (xs : List (Rc Entry Global)) → sum_of (map (λ (r : Rc Entry Global). entry_weight r.value) xs) ≡ entries_weight (newest_first xs)
newest_weight xs = let h = reversed_weight xs [] in omega arith

w2 : (o : Components-F Sig What Components Entry Template) → components_step (map-Components Sig What Components Entry Template ℕ ℕ ℕ ℕ ℕ (fold-Sig ℕ ℕ ℕ ℕ ℕ sig_step what_step components_step entry_step template_step) (fold-What ℕ ℕ ℕ ℕ ℕ sig_step what_step components_step entry_step template_step) (fold-Components ℕ ℕ ℕ ℕ ℕ sig_step what_step components_step entry_step template_step) (fold-Entry ℕ ℕ ℕ ℕ ℕ sig_step what_step components_step entry_step template_step) (fold-Template ℕ ℕ ℕ ℕ ℕ sig_step what_step components_step entry_step template_step) o) ≡ sum_of (map (λ (r : Rc Entry Global). entry_weight r.value) o.entries.items)
unfolding entry_weight
w2 o = ap sum_of (map_twice _ _ o.entries.items)

w3 : (c : Components) → fold-Components ℕ ℕ ℕ ℕ ℕ sig_step what_step components_step entry_step template_step c ≡ entries_weight (newest_first (out-Components c).entries.items)
w3 c = let h = fold_out-Components ℕ ℕ ℕ ℕ ℕ sig_step what_step components_step entry_step template_step c in h ∙ (w2 (out-Components c) ∙ newest_weight (out-Components c).entries.items)

w4 : (o : Sig-F Sig What Components Entry Template) → sig_step (map-Sig Sig What Components Entry Template ℕ ℕ ℕ ℕ ℕ (fold-Sig ℕ ℕ ℕ ℕ ℕ sig_step what_step components_step entry_step template_step) (fold-What ℕ ℕ ℕ ℕ ℕ sig_step what_step components_step entry_step template_step) (fold-Components ℕ ℕ ℕ ℕ ℕ sig_step what_step components_step entry_step template_step) (fold-Entry ℕ ℕ ℕ ℕ ℕ sig_step what_step components_step entry_step template_step) (fold-Template ℕ ℕ ℕ ℕ ℕ sig_step what_step components_step entry_step template_step) o) ≡ entries_weight (names_in (inside_opened o))
w4 (Sig-F.Structure c) = w3 c
w4 (Sig-F.Functor p b) = refl
w4 Sig-F.Hole = refl

w5 : (s : Sig) → fold-Sig ℕ ℕ ℕ ℕ ℕ sig_step what_step components_step entry_step template_step s ≡ entries_weight (names_in (inside_sig s))
w5 s = fold_out-Sig ℕ ℕ ℕ ℕ ℕ sig_step what_step components_step entry_step template_step s ∙ w4 (out-Sig s)

w6 : (o : What-F Sig What Components Entry Template) → what_step (map-What Sig What Components Entry Template ℕ ℕ ℕ ℕ ℕ (fold-Sig ℕ ℕ ℕ ℕ ℕ sig_step what_step components_step entry_step template_step) (fold-What ℕ ℕ ℕ ℕ ℕ sig_step what_step components_step entry_step template_step) (fold-Components ℕ ℕ ℕ ℕ ℕ sig_step what_step components_step entry_step template_step) (fold-Entry ℕ ℕ ℕ ℕ ℕ sig_step what_step components_step entry_step template_step) (fold-Template ℕ ℕ ℕ ℕ ℕ sig_step what_step components_step entry_step template_step) o) ≡ entries_weight (names_in (what_opened o))
w6 (What-F.Scheme n) = refl
w6 (What-F.Constructor d k) = refl
w6 (What-F.Exception c) = refl
w6 (What-F.Label d k) = refl
w6 (What-F.Type d) = refl
w6 (What-F.Module s) = w5 s.value
w6 (What-F.ModuleType t) = refl

w7 : (w : What) → fold-What ℕ ℕ ℕ ℕ ℕ sig_step what_step components_step entry_step template_step w ≡ entries_weight (names_in (what_opened (out-What w)))
w7 w = fold_out-What ℕ ℕ ℕ ℕ ℕ sig_step what_step components_step entry_step template_step w ∙ w6 (out-What w)

-- an entry weighs more than what stands in it
pub contents_weight : (e : Entry) → entry_weight e ≡ suc (entries_weight (contents e))
contents_weight e = w1 e ∙ ap suc (w7 e.what)

after_entry : (way seen : List Name) (e : Entry) (es : List Entry) (m a : Bool) → queue_weight (modules_behind way seen es) ≤ entries_weight es → queue_weight (modules_behind way (str_bytes e.name ∷ seen) es) ≤ entries_weight es →
    queue_weight (if m then (if a then modules_behind way seen es else (str_bytes e.name ∷ way, contents e) ∷ modules_behind way (str_bytes e.name ∷ seen) es) else modules_behind way seen es) ≤ entry_weight e + entries_weight es
after_entry way seen e es true true h i = omega arith
after_entry way seen e es true false h i = let w = contents_weight e in omega arith
after_entry way seen e es false a h i = omega arith

pub modules_weight : (way seen : List Name) (es : List Entry) → queue_weight (modules_behind way seen es) ≤ entries_weight es
modules_weight way seen [] = omega arith
modules_weight way seen (e ∷ es) = after_entry way seen e es (is_module e) (among (str_bytes e.name) seen) (modules_weight way seen es) (modules_weight way (str_bytes e.name ∷ seen) es)

pub weight_append : (q r : List Scoped) → queue_weight (q ++ r) ≡ queue_weight q + queue_weight r
weight_append [] r = omega arith
weight_append (s ∷ q) r = let h = weight_append q r in omega arith

-- a step leaves less to search
pub searched_less : (s : Scoped) (q : List Scoped) → queue_weight (q ++ modules_behind s.0 [] s.1) < queue_weight (s ∷ q)
searched_less s q = let h = weight_append q (modules_behind s.0 [] s.1) in let i = modules_weight s.0 [] s.1 in omega arith

-- more steps than there are entries find the same
same_search : (o : Path) (k j : ℕ) (q : List Scoped) → queue_weight q ≤ k → queue_weight q ≤ j → search_in k o q ≡ search_in j o q
unfolding search_in
same_search o zero zero [] h i = refl
same_search o zero (suc j) [] h i = refl
same_search o (suc k) zero [] h i = refl
same_search o (suc k) (suc j) [] h i = refl
same_search o zero j (s ∷ q) h i = absurd (omega arith)
same_search o (suc k) zero (s ∷ q) h i = absurd (omega arith)
same_search o (suc k) (suc j) (s ∷ q) h i = let less = searched_less s q in ap (found_or s.0 (name_for o s.1)) (same_search o k j (q ++ modules_behind s.0 [] s.1) (omega arith) (omega arith))

-- one step of the search
pub way_step : (o : Path) (s : Scoped) (q : List Scoped) → way_among o (s ∷ q) ≡ found_or s.0 (name_for o s.1) (way_among o (q ++ modules_behind s.0 [] s.1))
unfolding way_among search_in
way_step o s q = let less = searched_less s q in
    ap (found_or s.0 (name_for o s.1)) (same_search o (entries_weight s.1 + queue_weight q) (queue_weight (q ++ modules_behind s.0 [] s.1)) (q ++ modules_behind s.0 [] s.1) (omega arith) (omega arith))

pub way_none : (o : Path) → way_among o [] ≡ None
unfolding way_among search_in
way_none o = refl

-- a module more was added, which no newer one hides
pub module_added : (way seen : List Name) (e : Entry) (older : List Entry) (before after : List Scoped) → is_module e ≡ true → among (str_bytes e.name) seen ≡ false →
    after ≡ before ++ (str_bytes e.name ∷ way, contents e) ∷ [] → after ++ modules_behind way (str_bytes e.name ∷ seen) older ≡ before ++ modules_behind way seen (e ∷ older)
module_added way seen e older before after is new added = rw (is, new, added, append_assoc)
