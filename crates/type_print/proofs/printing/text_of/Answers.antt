use Rattle.std.proofs.Common.{◌≡◌, refl, ◌⊎◌, inl, inr, ◌<◌, length, [], arith, ℕ, List, ◌∙◌, ap, ◌++◌, append_assoc, append-nil}
use Rattle.std.specs.Prelude.{string_bytes}
use Rattle.type_print.specs.Shown.{shown}
use Rattle.type_print_model.specs.Printing.{text_of, alone, most_shown}
use Rattle.type_print.specs.Pieces.{part_of, parts_of}
use Rattle.type_print.specs.Texts.{parts_text, Speaks}
use Rattle.type_print.proofs.Weights.{opened_less, opened_inside, root_node}
use Rattle.type_print.proofs.Shown.{shown_root}
use Rattle.type_print.proofs.Texts.{opened_text}
use Rattle.type_print.proofs.Ascii.{cuttable_front, cut_whole}
use Rattle.type_print.proofs.printing.text_of.Goals as goal
use Rattle.type_print.proofs.printing.text_of.Goals.{else-loop-written-test, then-loop-written-test+in-None}

pub loop-written-init : goal.loop-written-init
loop-written-init c =
    let nodes = c.args.store.now.nodes in
    rw (c.in_ok-add.ensures, c.new-2.ensures.items, c.new.ensures.bytes) (
      (root_node nodes c.args.n.0 c.root.result.0 c.root.ensures.sound c.requires c.root.ensures.root, tt),
      λ known. known,
      λ ns speaks. (append-nil (text_of ns alone (shown nodes c.root.result.0)) ∙ ap (text_of ns alone) (shown_root nodes c.root.ensures.sound c.args.n.0 c.root.result.0 c.requires c.root.ensures.root), speaks),
    )

pub loop-written-smaller : goal.loop-written-smaller
loop-written-smaller c =
    let inside = rw c.in-Some.ensures.some at c.loop-written.invariant.0 in
    rw (c.in_ok-write_piece-in-Some.ensures.left, c.in-Some.ensures.some)
    (opened_less c.args.store.now.nodes c.root.ensures.sound (part_of c.in-Some.piece) (parts_of c.take_next.new.self) inside.0)

pub loop-written-preserved : goal.loop-written-preserved
loop-written-preserved c =
    let nodes = c.args.store.now.nodes in
    let inside = rw c.in-Some.ensures.some at c.loop-written.invariant.0 in
    rw c.in_ok-write_piece-in-Some.ensures.left (
      opened_inside nodes c.root.ensures.sound (part_of c.in-Some.piece) (parts_of c.take_next.new.self) inside,
      λ known. c.in_ok-write_piece-in-Some.ensures.known (c.loop-written.invariant.1 known),
      λ ns speaks.
          let written = c.in_ok-write_piece-in-Some.ensures.text ns speaks in
          let before = rw c.in-Some.ensures.some at (c.loop-written.invariant.2 ns written.1) in
          let opened = opened_text nodes c.root.ensures.sound ns (part_of c.in-Some.piece) (parts_of c.take_next.new.self) inside.0 in
          (rw (written.0, append_assoc) (ap (λ (t : List ℕ). string_bytes c.loop-written.written.text ++ t) opened ∙ before.0), before.1),
    )

pub returns-clause-known : goal.returns-clause-known
returns-clause-known c known = elim c.loop-written-test.branch [
  | else-loop-written-test w ↦ rw w.written-is (c.loop-written.invariant.1 known)
  | then-loop-written-test+in-None w ↦ rw w.written-is (c.loop-written.invariant.1 known)
]

pub returns-clause-text : goal.returns-clause-text
returns-clause-text c ns speaks =
    let nodes = c.args.store.now.nodes in
    let written = c.loop-written-test.written in
    let text = string_bytes written.text in
    let whole = text_of ns alone (shown nodes c.args.n.0) in
    let ended : Speaks c.args.variables.now c.args.known.items ns × ((ys : List ℕ) × (text ++ ys ≡ whole) × ((ys ≡ []) ⊎ (most_shown < length text))) =
    elim c.loop-written-test.branch [
      | else-loop-written-test w ↦
          let now = c.loop-written.invariant.2 ns (rw w.written-is at speaks) in
          (now.1, (parts_text nodes ns (parts_of c.loop-written.written.left), rw w.written-is now.0, rw w.written-is (inr (omega arith))))
      | then-loop-written-test+in-None w ↦
          let now = rw w.in-None.ensures.none at (c.loop-written.invariant.2 ns (rw w.written-is at speaks)) in
          (now.1, ([], rw w.written-is now.0, inl refl))
    ] in
    let (left, is, way) = ended.1 in
    (ended.0, λ cuttable. c.in_ok-text.ensures (cuttable_front text left whole is cuttable) ∙ cut_whole text left whole is way)
