use Rattle.std.proofs.Common.{◌≡◌, ◌∙◌, List, map, Some, sym, ap, subst}
use Rattle.std.specs.Prelude.{IfSome}
use Rattle.text_terms.specs.Bytes.{str_bytes}
use Rattle.type_terms.specs.Views.{path_of}
use Rattle.env_table.specs.declared.entries.Constructor.{Constructor}
use Rattle.pattern_matrix.specs.Lines.{con, listed}
use Rattle.pattern_matrix.specs.Views.{typed_of, members_of}
use Rattle.match_warnings.specs.Patterns.{constructors_of, declared_member, is_of_unknown_type, shaped}
use Rattle.match_warnings.proofs.Finding.{by_no_variant, by_variant}
use Rattle.match_warnings.proofs.pats.declared.Goals as goal

pub returns-then-is_of_unknown_type : goal.returns-then-is_of_unknown_type
returns-then-is_of_unknown_type c = λ members of shared.
    (ap (λ b. shaped b c.args.declaration.now.shape (str_bytes c.args.name.now) (map typed_of c.args.parts.items)) c.if-is_of_unknown_type.ensures, shared)

pub returns-in_ok-share-in-Variant : goal.returns-in_ok-share-in-Variant
returns-in_ok-share-in-Variant c = λ members of shared.
    let d = c.args.declaration.now in
    let ks = c.in-Variant.constructors in
    let n = str_bytes c.args.name.now in
    let ps = map typed_of c.args.parts.items in
    let g = c.in_ok-constructors_of-in-Variant.ensures members
    (subst (λ (xs : List Constructor). IfSome d.origin (λ o. map declared_member xs ≡ members (path_of o))) (sym c.deref.ensures.value) (of ks.items (ap constructors_of c.in-Variant.is))) shared in (
      ap Some (c.of_constructors.ensures ∙ ap (λ m. con (members_of c.in_ok-constructors_of-in-Variant.field-0.value.items) m (listed ps)) c.in_ok-share-in-Variant.ensures
          ∙ ap (λ m. con m n (listed ps)) (g.0 ∙ ap (map declared_member) c.deref.ensures.value))
          ∙ sym (by_variant (is_of_unknown_type d) d.shape ks n ps (sym c.if-is_of_unknown_type.ensures) c.in-Variant.is),
      g.1,
    )

pub returns-in_default : goal.returns-in_default
returns-in_default c = λ members of shared.
    (sym (by_no_variant _ c.args.declaration.now.shape (str_bytes c.args.name.now) (map typed_of c.args.parts.items) (λ ks. c.in_default.not-Variant ks)), shared)
