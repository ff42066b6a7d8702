-- Type expressions that are read in order.
use Rattle.std.proofs.Common.{◌≡◌, ◌∙◌, ◌++◌, ℕ, List, [], ◌∷◌, map, refl, sym, ap, subst, append_assoc, append-nil}
use Rattle.typing_model.specs.Contexts.{Choice}
use Rattle.typing_model.specs.Parts.{TypeExpression}
use Rattle.typing_model.specs.TypeExpressions.{read_all, nodes_of}
use Rattle.env_table.specs.declared.entries.Entry.{Entry}
use Rattle.typing_state.specs.declared.parts.Parts.{Parts}
use Rattle.typing_state.specs.Goes.{Goes}
use Rattle.typing_conditions.specs.Sights.{own}
use Rattle.typing_conditions.specs.Meanings.{AllMean, none_mean, one_means, types_by}
use Rattle.typing_conditions.specs.Carrying.{Asks}
use Rattle.typing_conditions.proofs.Carried.{carried_refl, carried_trans, carried_as, done_then, done_last, done_as}
use Rattle.typing_conditions.proofs.Hiding.{done_none, done_both}
use Rattle.typing_conditions.proofs.Meaning.{all_mean_on, all_mean_more}
use Rattle.typing_conditions.proofs.Surrounding.{surrounds_on}
use Rattle.typing_steps.specs.States.{is_aloud, sight}
use Rattle.typing_rows.specs.TypeContracts.{ReadsTo, types_at, ReadsAll, ReadsFirst}

-- the types of more nodes
types_more : (ns : List ℕ) (n : ℕ) → types_at (ns ++ n ∷ []) ≡ types_at ns ++ (λ (ch : Choice). ch.type_at n) ∷ []
types_more [] n = refl
types_more (k ∷ ns) n = ap (λ ts. (λ (ch : Choice). ch.type_at k) ∷ ts) (types_more ns n)

-- no type expression yet
pub none_read : (a : Parts) (env : List Entry) (all : List TypeExpression) → ReadsFirst a a env all all []
none_read a env all = λ aloud F scope G s. record {
  done = λ c. [];
  nodes = [];
  read = record { letters = []; carried = carried_refl; done = done_none; means = none_mean };
  asks = λ c. refl;
  gives = refl;
}

-- one type expression more
pub one_read : (a b d : Parts) (env : List Entry) (all left : List TypeExpression) (t : TypeExpression) (ms : List ℕ) (m : ℕ) → ReadsFirst a b env all (t ∷ left) ms → Goes a b → ReadsTo b d env (λ c. t.read c) t.node m → ReadsFirst a d env all left (ms ++ m ∷ [])
one_read a b d env all left t ms m first goes read = λ aloud F scope G s.
    let x = first aloud F scope G s in
    let y = read (ap is_aloud goes.telling ∙ aloud) F scope (x.read.letters ++ G) (surrounds_on x.read.carried.stays s) in
    record {
      done = λ c. x.done c ++ t.read c;
      nodes = x.nodes ++ t.node ∷ [];
      read = record {
        letters = (own t.node, m) ∷ x.read.letters;
        carried = carried_trans x.read.carried y.carried;
        done = done_both (done_last x.read.carried y.carried y.done) (done_then x.read.carried y.carried x.read.done);
        means = subst (λ types. AllMean F (sight d) ((own t.node, m) ∷ (x.read.letters ++ G)) types (ms ++ m ∷ [])) (sym (types_more x.nodes t.node)) (all_mean_more (all_mean_on y.carried.stays x.read.means) y.means);
      };
      asks = λ c. x.asks c ∙ sym (append_assoc (x.done c) (t.read c) (read_all c left));
      gives = x.gives ∙ sym (append_assoc x.nodes (t.node ∷ []) (nodes_of left));
    }

-- all of them
pub all_read : (a b : Parts) (env : List Entry) (all : List TypeExpression) (ms : List ℕ) → ReadsFirst a b env all [] ms → ReadsAll a b env (λ c. read_all c all) (nodes_of all) ms
all_read a b env all ms first = λ aloud F scope G s.
    let x = first aloud F scope G s in
    record {
      letters = x.read.letters;
      carried = carried_as (λ c. sym (x.asks c ∙ append-nil (x.done c))) x.read.carried;
      done = done_as (λ c. sym (x.asks c ∙ append-nil (x.done c))) x.read.carried x.read.done;
      means = subst (λ ns. AllMean F (sight b) (x.read.letters ++ G) (types_at ns) ms) (sym (x.gives ∙ append-nil x.nodes)) x.read.means;
    }

-- no part at all
pub no_parts_read : (a : Parts) (env : List Entry) → ReadsAll a a env (λ c. []) [] []
no_parts_read a env = λ aloud F scope G s. record { letters = []; carried = carried_refl; done = done_none; means = none_mean }

-- a single type expression in front of a constructor
pub alone_read : (a b : Parts) (env : List Entry) (asks : Asks) (n m : ℕ) → ReadsTo a b env asks n m → ReadsAll a b env asks (n ∷ []) (m ∷ [])
alone_read a b env asks n m read = λ aloud F scope G s. let x = read aloud F scope G s in record { letters = (own n, m) ∷ []; carried = x.carried; done = x.done; means = one_means x.means none_mean }

-- the types of nodes by a choice
pub types_by_nodes : (ch : Choice) (ns : List ℕ) → types_by ch (types_at ns) ≡ map ch.type_at ns
types_by_nodes ch [] = refl
types_by_nodes ch (n ∷ ns) = ap (λ ts. ch.type_at n ∷ ts) (types_by_nodes ch ns)
