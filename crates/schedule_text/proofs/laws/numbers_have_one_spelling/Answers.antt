use Rattle.schedule_text.proofs.NumeralLaws.{number_up_to-decimal, numeral_read}
use Rattle.schedule_text.proofs.laws.numbers_have_one_spelling.Goals as goal

pub returns-clause-reads_back : goal.returns-clause-reads_back
returns-clause-reads_back c = λ most n low fits. number_up_to-decimal most n fits low

pub returns-clause-one_spelling : goal.returns-clause-one_spelling
returns-clause-one_spelling c = λ most bs n low e. (numeral_read most bs n low e).digits
