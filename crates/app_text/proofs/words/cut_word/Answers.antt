use Rattle.std.proofs.Common.{◌∷◌, ◌+◌, take, sym, ap, ◌∙◌}
use Rattle.std.proofs.lemmas.List.{take_rest}
use Rattle.app_text.specs.Words.{words_of}
use Rattle.app_text.proofs.Cuts.{no_space, first_space}
use Rattle.app_text.proofs.words.cut_word.Goals as goal

pub returns-in-Some : goal.returns-in-Some
returns-in-Some c =
    let text = c.args.text.now in
    let place = c.in-Some.place in
    first_space text place (sym c.in-Some.ensures) ∙ ap (λ rest. take place text ∷ words_of rest) (sym (take_rest text (place + 1)))

pub returns-in-None : goal.returns-in-None
returns-in-None c = no_space c.args.text.now (sym c.in-None.ensures)
