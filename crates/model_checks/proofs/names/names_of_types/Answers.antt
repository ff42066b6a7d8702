use Rattle.std.proofs.Common.{◌≡◌, inl, inr, Bool, true, false, List, [], ◌∷◌, ◌++◌, codes, Option, Some, None, refl, ◌∙◌, ap, subst, arith, if◌then◌else◌}
use Rattle.type_model.specs.Types.{Path}
use Rattle.signature_model.specs.Declarations.{Name}
use Rattle.signature_model.specs.Entries.{Entry, type_kind}
use Rattle.signature_model.specs.Lookups.{FoundAmong, an_entry, a_hole, nothing, found, is_named}
use Rattle.type_print_model.specs.Paths.{Reaches, GoesBefore, IsNameOf, shown, hidden, naming}
use Rattle.model_checks.specs.Scopes.{shown_scope, only_entry}
use Rattle.model_checks.proofs.names.names_of_types.Goals as goal

-- no path goes before the name alone
none_before : (ms : List Name) (n : Name) → GoesBefore naming shown_scope (record { modules = ms; name = n }) (record { modules = []; name = codes "t" }) → ⊥
none_before [] n (inl h) = omega arith
none_before [] n (inr (e, inl h)) = omega arith
none_before [] n (inr (e, inr (i, h))) = h
none_before (m ∷ ms) n (inl h) = omega arith
none_before (m ∷ ms) n (inr (e, h)) = omega arith

-- the origin that a found declaration makes
abbrev made_by : FoundAmong Entry → Option Path
made_by (an_entry e) = naming.makes e
made_by a_hole = None
made_by nothing = None

not_seven : ◌≡◌ {A = Option Path} (Some (7 ∷ [])) (Some (8 ∷ [])) → ⊥
not_seven e = cc e

not_none : (o : Path) → ◌≡◌ {A = Option Path} None (Some o) → ⊥
not_none o e = cc e

-- no path reaches another origin
none_reaches : (ms : List Name) (n : Name) → Reaches naming shown_scope (8 ∷ []) (record { modules = ms; name = n }) → ⊥
none_reaches [] n r = by (is_named type_kind n only_entry) (ap made_by r.found ∙ r.makes)
  where
    by : (b : Bool) → made_by (found (if b then Some only_entry else None)) ≡ Some (8 ∷ []) → ⊥
    by true e = not_seven e
    by false e = not_none (8 ∷ []) e
none_reaches (m ∷ ms) n r = not_none (8 ∷ []) (ap made_by r.found ∙ r.makes)

pub returns-clause-shown : goal.returns-clause-shown
returns-clause-shown c declared = shown {p = record { modules = []; name = codes "t" }} (record {
  reaches = record { entry = only_entry; found = refl; makes = refl };
  first = λ q r before. none_before q.modules q.name before;
})

pub returns-clause-hidden : goal.returns-clause-hidden
returns-clause-hidden c declared e =
    subst (λ text. IsNameOf naming shown_scope declared (8 ∷ []) text) (ap (λ n. n ++ codes "/hidden") e) (hidden (λ p r. none_reaches p.modules p.name r))
