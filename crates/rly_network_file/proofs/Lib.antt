mod Drawn
