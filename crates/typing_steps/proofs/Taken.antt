-- An instance of a declaration's root: the letters of a node stand for the images of its parameters, and what its unknown types are filled with there for theirs.
use Rattle.std.proofs.Common.{◌≡◌, ◌∙◌, ◌++◌, inl, ℕ, List, [], refl, sym, ap, subst, append-nil}
use Rattle.type_model.specs.Types.{Typ}
use Rattle.type_model.specs.Types.{Typ as type}
use Rattle.type_model.specs.Substitutions.{apply}
use Rattle.signature_model.specs.Matching.{used}
use Rattle.typing_model.specs.Contexts.{Context}
use Rattle.type_nodes.specs.Nodes.{IsSound}
use Rattle.type_nodes.specs.Readings.{Types}
use Rattle.level_unify.specs.Instances.{Instantiated}
use Rattle.level_unify.proofs.Unified.{fits_loosely}
use Rattle.typing_conditions.specs.Locals.{IsOwn, Refines}
use Rattle.typing_conditions.proofs.Own.{own_of}
use Rattle.typing_conditions.proofs.Steps.{refines_made}
use Rattle.typing_conditions.specs.Declared.{RootAs}
use Rattle.typing_conditions.proofs.Roots.{named_bound}
use Rattle.typing_conditions.proofs.Taking.{HasImages, images_of, take_sound, take_each, take_complete}
use Rattle.typing_conditions.specs.Sights.{Sight, Letters, AreNodes}
use Rattle.typing_conditions.specs.Frames.{Frame, Reaches, IsOpen, IsRoot}
use Rattle.typing_conditions.specs.Judging.{judgements, StartsWith}
use Rattle.typing_conditions.specs.Steps.{OnlyNodes}
use Rattle.typing_conditions.specs.Carrying.{Scope, Enters, Stays, Continues, CarriedTo}
use Rattle.typing_conditions.proofs.Judged.{given_left, given_right, given_both}
use Rattle.typing_conditions.proofs.Framing.{open_instance, written_next}
use Rattle.typing_conditions.proofs.Carried.{take_none}
use Rattle.typing_conditions.proofs.First.{starts_none}
use Rattle.typing_conditions.proofs.Making.{loose_before, reading_before}
use Rattle.typing_conditions.proofs.Meaning.{agrees_same, inside_longer}
use Rattle.typing_conditions.proofs.Hiding.{keeps_as, settles_none, none_doubtful}
use Rattle.typing_conditions.proofs.Copies.{copied_after}
use Rattle.typing_conditions.proofs.Stops.{none_stop}
use Rattle.typing_conditions.specs.Hiding.{AreOfRow}
use Rattle.typing_steps.proofs.Images.{images_in, named_value, nodes_both, given_at, at_given, nodes_at, arrow_inside, images_of_row}

-- the letters of a use, which are nodes, and what it carries: nothing is asked, and its node has the type of the use; where that is an arrow, so is each type of the node.
pub record TakenWith (F : Frame) (scope : Scope) (a : Sight) (G : Letters) (b : Sight) (n : ℕ) (t : Typ) (m : ℕ) : Type 0 where
  pub own : Letters
  pub of_row : AreOfRow n own
  pub nodes : AreNodes own b.nodes
  pub typed : CarriedTo F scope (λ c. []) a G b (own ++ G) (λ ch. used (ch.letter n) (ch.filled n) t) m
  pub splits : (x y : Typ) → t ≡ type.Arrow x y → (K : Types) → IsOwn b.nodes K → (p : Typ) × (q : Typ) × (K m ≡ type.Arrow p q)

-- An instance of a root that stands for a type has that type as it is used at a node.
pub root_taken : {F : Frame} {scope : Scope} {G : Letters} {a b : Sight} {C : List ℕ} {N : Types} {arity root m : ℕ} {t : Typ} (n : ℕ) → Reaches F a → IsRoot F a root → RootAs a.nodes C N arity root t →
    IsSound b.nodes → Instantiated a.nodes b.nodes root F.level m → OnlyNodes a b → TakenWith F scope a G b n t m
root_taken {F} {scope} {G} {a} {b} {C} {N} {arity} {root} {m} {t} n reached is_root as_root sound taken rest = record {
  own = letters;
  of_row = images_of_row n images.image own.0 own.1 as_root;
  nodes = letter_nodes;
  typed = record {
    carried = record {
      stays = stays;
      hidden = [];
      settled = settles_none;
      clear = λ known placed. none_doubtful;
      judged = [];
      told = [];
      reports = rest.reports ∙ sym (append-nil a.reports);
      counted = refl;
      sound = λ r V c l. record { same = refl; holds = tt; tells = refl; sees = tt; starts = refl };
      follows = λ r V c l. refl;
      complete = λ named V c e h. inl (complete V c e);
      first = λ named k V c e h. inl (subst (λ cs. StartsWith [] (judgements c.kept cs)) (sym (take_none k)) (starts_none []));
      stops = none_stop;
    };
    means = record {
      open_node = opened;
      is = λ V ch loose g. take_sound own.1 as_root images V (ch.letter n) (ch.filled n) loose (λ v o. sym (named_value n ch (as_root.named own.0 own.1 v o)) ∙ given_at n N images.image V ch (own.0 root) (given_left V ch letters G g.given) v o);
    };
  };
  splits = λ x y e K own_b.
      let (p, q, is) = arrow_inside x y e as_root own.1 in
      (apply (λ v. K (images.image v)) p, apply (λ v. K (images.image v)) q, images.is K own_b.loose ∙ ap (apply (λ v. K (images.image v))) is);
}
  where
    own : (J : Types) × IsOwn a.nodes J
    own = own_of a.nodes reached.sound

    images : HasImages b.nodes own.0 root m
    images = images_of own.1 (own_of b.nodes sound).1 taken (λ v o. named_bound (as_root.named own.0 own.1 v o))

    letters : Letters
    letters = images_in n N images.image (own.0 root)

    letter_nodes : AreNodes letters b.nodes
    letter_nodes = nodes_at n N images.image b.nodes (own.0 root) images.inside

    opened : IsOpen F b m
    opened = open_instance sound rest taken reached is_root

    refines : Reaches F a → (K : Types) → IsOwn b.nodes K → Refines a.nodes b.nodes K
    refines r K own_b = refines_made a.nodes b.nodes K own_b (record { longer = taken.extends.longer; node = taken.extends.node })

    stays : Stays F a G b (letters ++ G)
    stays = record {
      longer = taken.extends.longer;
      loose = λ V h. loose_before a.nodes b.nodes V taken.extends h;
      reads = λ V h. reading_before a.nodes b.nodes V taken.extends h;
      reaches = λ r. opened.reached;
      writes = written_next rest.written (λ r. opened.reached) refines;
      refines = refines;
      recorded = λ i k y e. rest.types i k ∙ e;
      keeps = keeps_as rest.noted rest.scopes rest.types;
      written = λ y k e. rest.written y ∙ e;
      given = λ V ch h. given_right V ch letters G h;
      opens = copied_after letters G;
      inside = λ h.
          let i = inside_longer a b rest.types rest.written taken.extends.longer h in
          record { recorded = i.recorded; written = i.written; given = nodes_both b.nodes letters G letter_nodes i.given };
      aloud = rest.aloud;
      item = rest.item;
      level = rest.level;
      fixed = rest.fixed;
    }

    complete : (V : Types) (c : Context) → Enters F scope a G V c → Continues F (λ x. []) a b (letters ++ G) [] [] V c
    complete V c e =
        let ch = c.chosen in
        let (W, fits, same, is) = take_complete own.1 as_root taken V (ch.letter n) (ch.filled n) e.fits in
        let each = take_each own.1 as_root images W (ch.letter n) (ch.filled n) (fits_loosely b.nodes W fits) is in
        let g = agrees_same a b rest.types rest.written e.inside same e.agrees in
        record {
          same = refl;
          types = W;
          on = record {
            fits = fits;
            before = same;
            agrees = record {
              recorded = g.recorded;
              known = g.known;
              written = g.written;
              given = given_both W ch letters G (at_given n N images.image W ch (own.0 root) (λ v o. named_value n ch (as_root.named own.0 own.1 v o) ∙ each v o)) g.given;
            };
          };
          hidden_too = (tt, tt);
        }
