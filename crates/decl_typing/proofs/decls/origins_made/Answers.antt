use Rattle.std.proofs.Common.{◌≡◌, ◌∙◌, ◌+◌, true, false, List, ℕ, [], ◌∷◌, ◌++◌, map, drop, sym, ap, append-nil, append_assoc}
use Rattle.std.proofs.lemmas.List.{drop_more, drop_all, map-append}
use Rattle.env_table.specs.declared.Origin.{Origin}
use Rattle.operand_laws.specs.Operands.{number_of}
use Rattle.decl_groups.specs.declared.groups.DeclarationPart.{DeclarationPart}
use Rattle.decl_typing.proofs.decls.origins_made.Goals.{then-not-is_set+in_ok-origin+in_ok-push, else-not-is_set}
use Rattle.decl_typing.proofs.decls.origins_made.Goals as goal

-- the path of an origin, and that of a declaration in the item i
abbrev path : Origin → List ℕ
path o = o.path.items

abbrev own_path : ℕ → DeclarationPart → List ℕ
own_path i p = number_of i p.number ∷ []

pub loop-place-preserved : goal.loop-place-preserved
loop-place-preserved c = λ unset.
    let k = c.loop-place.place in
    let p = c.index-parts-place.result in
    let i = c.args.at.now.item in
    let left = map (own_path i) (drop (k + 1) c.args.parts.now) in
    let more = ap (map (own_path i)) (drop_more c.args.parts.now k p c.loop-place-test.true ∙ ap (λ q. q ∷ drop (k + 1) c.args.parts.now) (sym c.index-parts-place.is)) in
    elim c.if-not-is_set.branch [
      | then-not-is_set+in_ok-origin+in_ok-push w ↦
          let o = w.in_ok-origin.origin in
          ap (λ v. map path v.items ++ left) w.makes-is
          ∙ ap (λ os. map path os ++ left) w.in_ok-push.ensures.pushed
          ∙ ap (λ ps. ps ++ left) (map-append path c.loop-place.makes.items (o ∷ []))
          ∙ append_assoc (map path c.loop-place.makes.items) (path o ∷ []) left
          ∙ ap (λ x. map path c.loop-place.makes.items ++ x ∷ left) w.in_ok-origin.ensures.path
          ∙ ap (λ xs. map path c.loop-place.makes.items ++ xs) (sym more)
          ∙ c.loop-place.invariant unset
      | else-not-is_set w ↦ absurd (let f : false ≡ true = sym (unset k) ∙ sym c.is_set.ensures ∙ w.if-not-is_set.false in cc)
    ]

pub returns : goal.returns
returns c = λ unset.
    sym (append-nil (map path c.loop-place.makes.items))
    ∙ ap (λ ps. map path c.loop-place.makes.items ++ map (own_path c.args.at.now.item) ps) (sym (drop_all c.loop-place.place c.args.parts.now c.loop-place-test.false))
    ∙ c.loop-place.invariant unset
