use Rattle.std.proofs.Common.{arith}
use Rattle.printing.proofs.DecimalLaws.{decimal_room}
use Rattle.printing.proofs.PutLaws.{puts_digit, puts_last}
use Rattle.printing.proofs.text.Page.+put_decimal.Goals as goal

pub returns-then-x-lt10 : goal.returns-then-x-lt10
returns-then-x-lt10 t c = puts_digit c.args.x c.if-x-lt10.true c.put_byte.ensures

pub put_byte-requires-2 : goal.put_byte-requires-2
put_byte-requires-2 t c = omega (arith, decimal_room c.args.x c.if-x-lt10.false c.ranges.x.fits)

pub returns : goal.returns
returns t c = puts_last c.args.x c.if-x-lt10.false c.put_decimal.ensures c.put_byte-2.ensures
