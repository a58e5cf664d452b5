-- A try's proposal, and what the functions that read one coefficient hand back: what was read, and where the words left begin.
use Rattle.std.specs.Prelude.{ℕ, suc, ◌+◌, ◌-◌, ◌^◌, ◌<◌, ◌≤◌, ◌≡◌, Bool, false, cond, ◌&&◌, List, [], leb, ltb, eqb, length, get_or, drop, Float, Option, Some, None, Result, Ok, Err}
use Rattle.std.specs.Float.{binary64}
use Rattle.std.specs.Float.Ieee.{div}
use Rattle.distr.specs.declared.threshold.Threshold.{Threshold}
use Rattle.distr.specs.declared.refusal.Refusal.{Refusal}
use Rattle.distr.specs.Constants.{literal}
use Rattle.distr.specs.Words.{Read, got, short, map_read, bind_read, word, choose, coin, chance}
use Rattle.distr.specs.Layered.{Layers, accepts, zero_threshold, passed_try}
use Rattle.probability.specs.Made.{made_threshold}
use Rattle.ziggurat.specs.declared.sampling.Trial.{Trial}
use Rattle.ziggurat.specs.declared.sampling.Attempt.{Attempt}
use Rattle.ziggurat.specs.Tables.{tables}

-- "A try chooses the layer among R, plus 1, then a coin (yes is positive), then a magnitude among endpoint + 1."
pub record Proposed : Type 0 where
  pub layer : ℕ
  pub positive : Bool
  pub magnitude : ℕ

unfoldable pub propose : List ℕ → List ℕ → Read Proposed
propose endpoints ws =
    bind_read (choose (length endpoints - 1) ws) (λ chosen ws₁.
    bind_read (coin ws₁) (λ positive ws₂.
    map_read (λ m. record { layer = chosen + 1; positive = positive; magnitude = m }) (choose (suc (get_or endpoints (chosen + 1) 0)) ws₂)))

-- A magnitude up to the endpoint of a layer that is there.
pub record OnLayer (endpoints : List ℕ) (layer magnitude : ℕ) : Type 0 where
  pub some : 0 < layer
  pub there : layer < length endpoints
  pub below : magnitude ≤ get_or endpoints layer 0
  pub small : get_or endpoints layer 0 < 2 ^ 32

-- A magnitude on a layer, in all three tables.
pub record OnTables (t : Layers) (layer magnitude : ℕ) : Type 0 where
  pub on : OnLayer t.endpoints layer magnitude
  pub inner : get_or t.endpoints (layer - 1) 0 < 2 ^ 32
  pub height : layer < length t.heights
  pub value : magnitude < length t.curve

-- What a proposal says was read, with the words left then; and that it is on a layer, and took three words and those that its choices passed over,
-- which the endpoints alone tell.
abbrev pub proposal_read : List ℕ → Option Trial → Read Proposed
proposal_read ws (Some c) = got (record { layer = c.layer; positive = c.positive; magnitude = c.magnitude }) (drop c.place ws)
proposal_read ws None = short

abbrev pub ProposalSound : List ℕ → List ℕ → ℕ → Option Trial → Type 0
ProposalSound endpoints ws at (Some c) =
    OnLayer endpoints c.layer c.magnitude × (c.place ≡ at + 3 + passed_try (tables endpoints [] []) (drop at ws)) × (c.place ≤ length ws)
ProposalSound endpoints ws at None = Unit

pub record Proposes (endpoints ws : List ℕ) (place : ℕ) (r : Option Trial) : Type 0 where
  pub reads : proposal_read ws r ≡ propose endpoints (drop place ws)
  pub sound : ProposalSound endpoints ws place r

-- The threshold that is made, or that of nothing.
abbrev pub made_or_none : Result Threshold Refusal → Threshold
made_or_none (Ok threshold) = threshold
made_or_none (Err why) = record { full = false; below = 0 }

-- The threshold of zero as it is made, by the first height.
abbrev pub zero_over : Float → Threshold
zero_over first = made_or_none (made_threshold (div binary64 (literal 1 2) first))

-- Inside the layer above, the test made on integers.
abbrev pub is_inside : List ℕ → ℕ → ℕ → Bool
is_inside endpoints i m = leb m (get_or endpoints (i - 1) 0) && ltb 0 m

-- The judging of what is not inside the layer above: "magnitude 0 passes by the threshold", another by a word.
unfoldable pub judge_edge : Float → Layers → ℕ → ℕ → List ℕ → Read Bool
judge_edge deviation t i m ws = cond (eqb m 0) (chance (zero_threshold t) ws) (map_read (λ u. accepts deviation t i m u) (word ws))

-- How many words it reads, by the threshold of magnitude 0.
unfoldable pub edge_words : ℕ → ℕ → ℕ
edge_words threshold m = cond (eqb m 0) (cond (eqb threshold (2 ^ 64)) 0 2) 1

-- A trial that can be judged: it was read, and the words of its judging are there.
pub record Ready (endpoints : List ℕ) (threshold : ℕ) (ws : List ℕ) (at : ℕ) (a : Attempt) : Type 0 where
  pub reads : Proposes endpoints ws at (Some a.trial)
  pub side : a.inside ≡ is_inside endpoints a.trial.layer a.trial.magnitude
  pub next : a.after ≡ a.trial.place + cond a.inside 0 (edge_words threshold a.trial.magnitude)
  pub within : a.after ≤ length ws

-- Why none can be: a word of the proposal is missing, or one of its judging.
pub data Lacks (endpoints : List ℕ) (threshold : ℕ) (ws : List ℕ) (at : ℕ) : Type 0 where
  unproposed : Proposes endpoints ws at None → Lacks endpoints threshold ws at
  unjudged : (tried : Trial) → Proposes endpoints ws at (Some tried) → is_inside endpoints tried.layer tried.magnitude ≡ false
      → length ws < tried.place + edge_words threshold tried.magnitude → Lacks endpoints threshold ws at

abbrev pub Attempts : List ℕ → ℕ → List ℕ → ℕ → Option Attempt → Type 0
Attempts endpoints threshold ws at (Some a) = Ready endpoints threshold ws at a
Attempts endpoints threshold ws at None = Lacks endpoints threshold ws at
