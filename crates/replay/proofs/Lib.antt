mod Players
