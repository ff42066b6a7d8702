-- The types of nodes in a text of `let`, `;;` and exceptions without an argument: each constructor is one of the first environment's types, which a path of names of one byte a character reaches.
use Rattle.std.proofs.Common.{◌≡◌, ℕ, true, List, refl, sym, subst}
use Rattle.tree_model.specs.Trees.{Tree}
use Rattle.type_model.specs.Types.{Path, Typ}
use Rattle.signature_model.specs.Declarations.{Name}
use Rattle.signature_model.specs.Changes.{among}
use Rattle.signature_model.specs.Entries.{Environment}
use Rattle.type_print_model.specs.Paths.{NamePath, Reaches, IsNameOf, shown, hidden, naming}
use Rattle.type_print_model.specs.Printing.{mentions}
use Rattle.typing_model.specs.Plain.{has_values_alone}
use Rattle.fault_model.specs.Values.{are_bare}
use Rattle.typed_model.specs.Over.{IsOver}
use Rattle.typed_model.specs.Shown.{IsToldTyped, IsTypingOf, IsCalled, asked}
use Rattle.type_print.specs.Texts.{IsAscii}
use Rattle.over_laws.proofs.Texts.{values_tell_typed_over, values_tell_own}
use Rattle.print_laws.specs.Rigid.{HasNoRigid}
use Rattle.print_laws.proofs.Ascii.{of_origin, over_ascii}
use Rattle.print_laws.proofs.Over.{reaches_under}
use Rattle.settled_types.specs.Made.{is_made_of}
use Rattle.settled_types.proofs.Settled.{told_types_are_made, mentioned_made}
use Rattle.prelude_checks.proofs.FirstAscii.{first_ascii}
use Rattle.prelude_checks.proofs.FirstTypes.{first_origins, first_constructors, first_made, first_reached, first_clean}

module _ (items : List Tree) (values : has_values_alone items ≡ true) (bare : are_bare items ≡ true) (t : IsTypingOf items) (n : ℕ) (E : Environment) (u : Typ) (told : IsToldTyped n E u (asked t)) where
  -- a node is told with its own type
  own_told : IsToldTyped n E (t.choice.type_at n) (asked t)
  own_told = subst (λ z. IsToldTyped n E z (asked t)) (values_tell_own t.env items t.kept t.choice values n E u told) told

  -- the type of a node that is told with it is made of the types of the first environment
  made : is_made_of first_origins (t.choice.type_at n) ≡ true
  made = told_types_are_made first_constructors items values bare t (first_made t.env t.first) n E own_told

  -- so no rigid variable stands in it
  pub values_clean : HasNoRigid (t.choice.type_at n)
  values_clean = first_clean (t.choice.type_at n) made

  over : IsOver t.env E
  over = values_tell_typed_over t.env items t.kept t.choice values n E u told

  pub values_among : (o : Path) → mentions o (t.choice.type_at n) ≡ true → among o first_origins ≡ true
  values_among o m = mentioned_made first_origins o (t.choice.type_at n) made m

  -- a path reaches each of its origins among the names in scope there
  pub values_reached : (o : Path) → mentions o (t.choice.type_at n) ≡ true → (p : NamePath) × Reaches naming E o p
  values_reached o m =
      let (p, r) = first_reached t.env t.first o (values_among o m) in
      (p, subst (λ z. Reaches naming z o p) (sym over.is) (reaches_under over.front t.env over.are_no_types o p r))

  called_by : (declared : Path → Name) (o : Path) (s : List ℕ) → (p : NamePath) × Reaches naming E o p → IsNameOf naming E declared o s → IsCalled E o s
  called_by declared o _ r (shown {p = p} is) = record { path = p; shown = is; spelled = refl }
  called_by declared o _ r (hidden none) = absurd (none r.0 r.1)

  -- So its name is that of a path, and has one byte for each character.
  pub values_called : (declared : Path → Name) (o : Path) (s : List ℕ) → mentions o (t.choice.type_at n) ≡ true → IsNameOf naming E declared o s → IsCalled E o s × IsAscii s
  values_called declared o s m named =
      let r = values_reached o m in
      (called_by declared o s r named, of_origin E (over_ascii over (first_ascii t.env t.first)) declared o s (λ none. absurd (none r.0 r.1)) named)
