-- `waveform::wide_wires::put_bus` meets its contract.
use Rattle.waveform.proofs.wide_wires.put_bus.Goals as goal

pub returns : goal.returns
returns c = record { place = rw (c.put_either.ensures.place, c.bus_text-text.ensures.text); bytes = rw (c.put_either.ensures.bytes, c.bus_text-text.ensures.text) }
