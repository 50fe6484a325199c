-- The rules of the method that was chosen.
use Rattle.svr_listing.specs.Methods.{AreLawful, Rules, chunk_rules, id_rules, score_rules, threshold_rules}
use Rattle.svr_method.specs.Laws.{id_lawful, score_lawful, threshold_lawful}
use Rattle.svr_chunks.specs.Laws.{chunks_lawful}
use Rattle.svr_chunks.specs.declared.chosen.Chosen.{Chosen}
use Rattle.svr_chunks.specs.declared.chosen.Chosen.TheVariants as chosen

-- the rules of each
abbrev pub chosen_rules : Chosen → Rules
chosen_rules (chosen.Id _) = id_rules
chosen_rules (chosen.Score _) = score_rules
chosen_rules (chosen.Threshold m) = threshold_rules m.num m.den
chosen_rules (chosen.Chunk m) = chunk_rules m.bounds

pub chosen_lawful : (m : Chosen) → AreLawful (chosen_rules m)
chosen_lawful (chosen.Id _) = id_lawful
chosen_lawful (chosen.Score _) = score_lawful
chosen_lawful (chosen.Threshold m) = threshold_lawful m.num m.den m.positive m.rising
chosen_lawful (chosen.Chunk m) = chunks_lawful m.bounds m.are
