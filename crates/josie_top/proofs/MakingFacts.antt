-- The record of a lake that is made, and the rows of its run.
use Rattle.std.proofs.Common.{◌≡◌, refl, ap, sym, ◌∙◌, subst, ℕ, inl, inr, ◌⊎◌, List, [], ◌∷◌, Bool, true}
use Rattle.std.specs.Io.KnownBytes.{Appends}
use Rattle.std.proofs.KnownBytes.{Appends-nil}
use Rattle.layout_laws.proofs.LawLemmas.{plans_stay}
use Rattle.record_model.specs.Rules.{Rules}
use Rattle.record_model.specs.declared.Status.TheVariants as status
use Rattle.script_model.specs.Commands.{Batch}
use Rattle.option_model.specs.Generator.{made_batch, made_options, summary}
use Rattle.script_model.specs.Lanes.{IsOfLanes}
use Rattle.record_model.specs.Play.{batch_after, played, played_from}
use Rattle.record_model.specs.Record.{RunRecord, empty, with_end}
use Rattle.script_model.specs.Options.{plain}
use Rattle.option_model.specs.Makes.{IsLakeMade}
use Rattle.record_model.specs.Statuses.{IsPrefix, IsRecordOf}
use Rattle.record_model.proofs.LegalLemmas.{record_right}
use Rattle.josie_top.specs.declared.writing.WriteStop.{WriteStop}
use Rattle.josie_top.specs.declared.writing.WriteStop.TheVariants as stop
use Rattle.josie_top.specs.Ends.{status_of_stop}
use Rattle.josie_top.specs.Meets.{Makes}
use Rattle.josie_top.specs.World.{World}

-- the batch is played alone
one_batch : (rules : Rules) (batch : Batch) (turns : List Bool) → played rules made_options (batch ∷ []) (turns ∷ []) ≡ record (batch_after rules 1 batch [] [] turns (empty plain)) { options = made_options }
unfolding played_from
one_batch rules batch turns = refl

-- Playing the batch on an empty record gives the record of the lake, with its options and its end.
pub lake_made : (rules : Rules) (seed tables rows : ℕ) (batch : Batch) (turns : List Bool) (made now : RunRecord) → batch ≡ made_batch seed tables rows → IsOfLanes 1 batch
    → made ≡ batch_after rules 1 batch [] [] turns (empty plain) → now ≡ with_end true (record made { options = made_options }) → IsLakeMade rules seed tables rows now
lake_made rules seed tables rows batch turns made now batch_is lanes is closed =
    let whole : now ≡ with_end true (played rules made_options (batch ∷ []) (turns ∷ [])) =
    closed ∙ ap (λ (m : RunRecord). with_end true (record m { options = made_options })) is ∙ ap (with_end true) (sym (one_batch rules batch turns)) in
    let options_are : now.options ≡ made_options = ap (λ (m : RunRecord). m.options) closed in
    let ended : now.ended ≡ true = ap (λ (m : RunRecord). m.ended) closed in
    let is_played : now ≡ with_end now.ended (played rules made_options (batch ∷ []) (turns ∷ [])) =
    whole ∙ ap (λ (b : Bool). with_end b (played rules made_options (batch ∷ []) (turns ∷ []))) (sym ended) in
    record {
      ended = ended;
      record_of = subst (λ (b : Batch). IsRecordOf rules made_options (b ∷ []) now) batch_is (record { options_are = options_are; right = record_right plans_stay rules made_options (batch ∷ []) now (lanes, tt) (turns ∷ [], is_played); played = λ stated. (turns ∷ [], is_played) });
    }

-- ---- the rows

pub nothing_made_of : (rules : Rules) (seed tables rows : ℕ) (world : World) (made : RunRecord) → made ≡ empty plain → Makes rules seed tables rows status.NoMemory world world made
nothing_made_of rules seed tables rows world made is = record { taken = []; took = Appends-nil world.written; row = inl (refl, is) }

pub whole_summary : (rules : Rules) (seed tables rows : ℕ) (before now : World) (made : RunRecord) → IsLakeMade rules seed tables rows made → Appends before.written now.written (summary made)
    → Makes rules seed tables rows status.Done before now made
whole_summary rules seed tables rows before now made is took = record { taken = summary made; took = took; row = (is, refl) }

pub part_of_summary : (rules : Rules) (seed tables rows : ℕ) (why : WriteStop) (before now : World) (made : RunRecord) → IsLakeMade rules seed tables rows made
    → (part : List ℕ) × IsPrefix part (summary made) × Appends before.written now.written part → Makes rules seed tables rows (status_of_stop why) before now made
part_of_summary rules seed tables rows stop.Failed before now made is (part, prefix, took) = record { taken = part; took = took; row = (is, prefix) }
part_of_summary rules seed tables rows stop.NoMemory before now made is (part, prefix, took) = record { taken = part; took = took; row = inr (is, prefix) }

pub stop_ends : (why : WriteStop) → (status_of_stop why ≡ status.Done) ⊎ (status_of_stop why ≡ status.WriteFault) ⊎ (status_of_stop why ≡ status.NoMemory)
stop_ends stop.Failed = inr (inl refl)
stop_ends stop.NoMemory = inr (inr refl)
